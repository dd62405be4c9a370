use Rattle.std.proofs.Common.{◌≡◌, ◌++◌, take}
use Rattle.std.specs.Prelude.{flat_map}
use Rattle.netlist_types.specs.declared.sources.Port.{Port}
use Rattle.link_defs.specs.Hierarchy.{wires_of}
use Rattle.link_defs.specs.Parts.{bit_ties}
use Rattle.link_items.proofs.joins.push_port_ties.Given as goal

abbrev pub invariant-loop-k : goal.invariant-loop-k
invariant-loop-k l = l.parts ≡ l.fn.parts ++ flat_map (λ (p : Port). bit_ties l.first p.bits (wires_of l.conns p.name)) (take l.k l.body.ports)
