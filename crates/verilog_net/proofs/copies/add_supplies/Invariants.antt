use Rattle.std.proofs.Common.{◌≡◌, ◌++◌, take}
use Rattle.std.specs.List.{flat_map}
use Rattle.verilog_net.specs.Items.{supplies_of}
use Rattle.verilog_net.proofs.copies.add_supplies.Given as goal

abbrev pub invariant-loop-name : goal.invariant-loop-name
invariant-loop-name l = l.items ≡ l.fn.items ++ flat_map (supplies_of l.scope l.bit) (take l.name-index l.names)
