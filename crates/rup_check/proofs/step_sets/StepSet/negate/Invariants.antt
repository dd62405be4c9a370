use Rattle.std.proofs.Common.{map, take}
use Rattle.proof_log.specs.Literals.{negated}
use Rattle.rup_check.proofs.Membership.{SameMembers}
use Rattle.rup_check.proofs.step_sets.StepSet.negate.Given as goal

abbrev pub invariant-loop-l : goal.invariant-loop-l
invariant-loop-l l = SameMembers l.self (map negated (take l.l-index l.clause))
