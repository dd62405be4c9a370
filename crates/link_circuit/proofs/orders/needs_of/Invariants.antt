use Rattle.std.proofs.Common.{◌≡◌, take, map}
use Rattle.std.specs.Prelude.{flat_map}
use Rattle.link_defs.specs.Hierarchy.{refs, place_of_module}
use Rattle.link_circuit.proofs.orders.needs_of.Given as goal

abbrev pub invariant-loop-k : goal.invariant-loop-k
invariant-loop-k l = l.needs ≡ map (place_of_module l.netlist.source.now) (flat_map refs (take l.k l.body.items))
