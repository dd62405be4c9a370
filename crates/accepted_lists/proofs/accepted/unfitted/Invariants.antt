use Rattle.std.proofs.Common.{◌≡◌, not}
use Rattle.std.specs.Prelude.{filter}
use Rattle.accepted_lists.specs.Accepted.{is_fitted}
use Rattle.accepted_lists.proofs.accepted.unfitted.Given as goal

abbrev pub invariant-loop-row : goal.invariant-loop-row
invariant-loop-row l = l.out ≡ filter (λ row. not (is_fitted l.entries row)) l.yielded
