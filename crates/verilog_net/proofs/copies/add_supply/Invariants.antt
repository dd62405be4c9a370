use Rattle.std.proofs.Common.{◌≡◌, ◌++◌, ℕ, map}
use Rattle.std.specs.List.{range_with_len}
use Rattle.netlist_types.specs.declared.sources.Wire.TheVariants as wire
use Rattle.netlist_types.specs.declared.sources.Item.TheVariants as item
use Rattle.verilog_net.proofs.copies.add_supply.Given as goal

abbrev pub invariant-loop-i : goal.invariant-loop-i
invariant-loop-i l = l.items ≡ l.fn.items ++ map (λ (to : ℕ). item.Copy to (wire.Const l.bit)) (range_with_len l.run.first l.i)
