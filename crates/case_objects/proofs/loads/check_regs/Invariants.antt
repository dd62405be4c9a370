use Rattle.std.proofs.Common.{◌≡◌, ℕ, ◌<◌}
use Rattle.std.specs.Prelude.{slice_get, Some}
use Rattle.net_model.specs.declared.netlist.Reg.{Reg}
use Rattle.case_objects.specs.declared.loads.Owner.TheVariants as owners
use Rattle.case_objects.specs.Stages.{AgreeOnPins}
use Rattle.case_objects.proofs.loads.check_regs.Given as goal

abbrev pub invariant-loop-k : goal.invariant-loop-k
invariant-loop-k l = (k : ℕ) (g : Reg) → k < l.k → slice_get l.regs k ≡ Some g → AgreeOnPins l.values (owners.Reg k) g.ins
