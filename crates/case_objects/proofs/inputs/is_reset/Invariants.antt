use Rattle.std.proofs.Common.{take, ◌≢◌}
use Rattle.std.specs.Prelude.{All}
use Rattle.net_model.specs.declared.netlist.Fixed.{Fixed}
use Rattle.case_objects.proofs.inputs.is_reset.Given as goal

abbrev pub invariant-loop-k : goal.invariant-loop-k
invariant-loop-k l = All (λ (f : Fixed). f.input ≢ l.input) (take l.k l.resets)
