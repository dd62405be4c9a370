use Rattle.std.proofs.Common.{◌≡◌, take, map}
use Rattle.link_design.specs.Orders.{need_by}
use Rattle.link_design.proofs.orders.needs_of.Given as goal

abbrev pub invariant-loop-net : goal.invariant-loop-net
invariant-loop-net l = l.needs ≡ map (need_by l.count l.sources l.row) (take l.net-index l.ins)
