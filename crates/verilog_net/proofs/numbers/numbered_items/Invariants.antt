use Rattle.std.proofs.Common.{◌≡◌, map}
use Rattle.verilog_net.specs.Uses.{numbered_item}
use Rattle.verilog_net.proofs.numbers.numbered_items.Given as goal

abbrev pub invariant-loop-item : goal.invariant-loop-item
invariant-loop-item l = l.list ≡ map (numbered_item l.fn.used) l.yielded
