use Rattle.std.proofs.Common.{arith}
use Rattle.mended_text.specs.Claims.{claim_list}
use Rattle.mend_groups.specs.declared.rows.Row.{Row}
use Rattle.mended_text.proofs.Comparing.{not_made}
use Rattle.mended_text.proofs.claims.are_claims_at.Goals as goal

pub returns-in-None : goal.returns-in-None
returns-in-None c = (
  λ yes. absurd cc,
  λ all. absurd (not_made (λ (r : Row). claim_list c.args.claims.now r.place) c.args.rows.now c.loop-row.row-index _ c.args.again.now
      c.loop-row.rest.now (omega arith) c.loop-row.invariant c.in-None.ensures all),
)
