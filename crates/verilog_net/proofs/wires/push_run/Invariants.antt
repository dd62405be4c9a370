use Rattle.std.proofs.Common.{◌≡◌, ◌++◌, ℕ, map}
use Rattle.std.specs.List.{range_with_len}
use Rattle.netlist_types.specs.declared.sources.Wire.TheVariants as wire
use Rattle.verilog_net.proofs.wires.push_run.Given as goal

abbrev pub invariant-loop-i : goal.invariant-loop-i
invariant-loop-i l = l.found ≡ l.fn.found ++ map (λ (n : ℕ). wire.Net n) (range_with_len l.run.first l.i)
