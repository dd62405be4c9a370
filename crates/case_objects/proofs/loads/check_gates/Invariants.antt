use Rattle.std.proofs.Common.{◌≡◌, ℕ, ◌<◌}
use Rattle.std.specs.Prelude.{slice_get, Some}
use Rattle.net_model.specs.declared.netlist.Gate.{Gate}
use Rattle.case_objects.specs.declared.loads.Owner.TheVariants as owners
use Rattle.case_objects.specs.Stages.{AgreeOnPins}
use Rattle.case_objects.proofs.loads.check_gates.Given as goal

abbrev pub invariant-loop-k : goal.invariant-loop-k
invariant-loop-k l = (k : ℕ) (g : Gate) → k < l.k → slice_get l.gates k ≡ Some g → AgreeOnPins l.values (owners.Gate k) g.ins
