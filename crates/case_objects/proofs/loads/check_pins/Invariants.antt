use Rattle.std.proofs.Common.{◌≡◌, ℕ, ◌<◌}
use Rattle.std.specs.Prelude.{slice_get, Some}
use Rattle.case_objects.specs.declared.subjects.Subject.TheVariants.{Load}
use Rattle.case_objects.specs.Subjects.{AgreeOn}
use Rattle.case_objects.specs.Stages.{load_pin}
use Rattle.case_objects.proofs.loads.check_pins.Given as goal

abbrev pub invariant-loop-i : goal.invariant-loop-i
invariant-loop-i l = (i net : ℕ) → i < l.i → slice_get l.nets i ≡ Some net → AgreeOn (Load (load_pin l.owner i) net) l.values
