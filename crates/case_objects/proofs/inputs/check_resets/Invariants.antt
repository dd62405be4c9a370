use Rattle.std.proofs.Common.{take}
use Rattle.std.specs.Prelude.{All}
use Rattle.case_objects.specs.declared.values.CaseValue.{CaseValue}
use Rattle.case_objects.specs.CaseObjects.{resets_input}
use Rattle.case_objects.proofs.inputs.check_resets.Given as goal

abbrev pub invariant-loop-k : goal.invariant-loop-k
invariant-loop-k l = All (λ (v : CaseValue). resets_input l.linked.design v.input → ⊥) (take l.k l.values)
