use Rattle.std.proofs.Common.{◌≡◌, take, false}
use Rattle.std.specs.Prelude.{All}
use Rattle.case_objects.specs.declared.values.CaseValue.{CaseValue}
use Rattle.case_objects.specs.Subjects.{is_about}
use Rattle.case_objects.proofs.subjects.first_about.Given as goal

abbrev pub invariant-loop-k : goal.invariant-loop-k
invariant-loop-k l = All (λ (v : CaseValue). is_about l.subject v ≡ false) (take l.k l.values)
