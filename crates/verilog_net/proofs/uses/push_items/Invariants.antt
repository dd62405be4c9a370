use Rattle.std.proofs.Common.{◌≡◌, ◌++◌, take}
use Rattle.std.specs.Prelude.{flat_map}
use Rattle.verilog_net.specs.Uses.{item_nets}
use Rattle.verilog_net.proofs.uses.push_items.Given as goal

abbrev pub invariant-loop-item : goal.invariant-loop-item
invariant-loop-item l = l.nets ≡ l.fn.nets ++ flat_map item_nets (take l.item-index l.items)
