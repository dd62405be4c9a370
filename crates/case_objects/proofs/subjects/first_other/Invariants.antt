use Rattle.std.proofs.Common.{◌≡◌, take, false}
use Rattle.std.specs.Prelude.{All}
use Rattle.case_objects.specs.declared.values.CaseValue.{CaseValue}
use Rattle.case_objects.specs.Stages.{is_other}
use Rattle.case_objects.proofs.subjects.first_other.Given as goal

abbrev pub invariant-loop-k : goal.invariant-loop-k
invariant-loop-k l = All (λ (v : CaseValue). is_other l.subject l.bit v ≡ false) (take l.k l.values)
