use Rattle.std.proofs.Common.{◌≡◌, ◌++◌, take}
use Rattle.mended_text.specs.Claims.{claims_at}
use Rattle.mended_text.proofs.claims.are_claims_at.Given as goal

abbrev pub invariant-loop-row : goal.invariant-loop-row
invariant-loop-row l = l.again ≡ claims_at l.claims (take l.row-index l.rows) ++ l.rest
