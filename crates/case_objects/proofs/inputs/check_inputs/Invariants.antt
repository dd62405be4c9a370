use Rattle.std.proofs.Common.{◌≡◌, ℕ, take}
use Rattle.std.specs.Prelude.{All, Some}
use Rattle.case_objects.specs.declared.values.CaseValue.{CaseValue}
use Rattle.case_objects.specs.declared.subjects.Subject.TheVariants.{Input}
use Rattle.case_objects.specs.Subjects.{AgreeOn}
use Rattle.case_objects.proofs.inputs.check_inputs.Given as goal

abbrev pub invariant-loop-k : goal.invariant-loop-k
invariant-loop-k l = All (λ (v : CaseValue). (i : ℕ) → v.input ≡ Some i → AgreeOn (Input i) l.values) (take l.k l.values)
