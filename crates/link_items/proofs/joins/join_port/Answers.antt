use Rattle.std.proofs.Common.{List, All, length, subst, sym}
use Rattle.netlist_types.specs.declared.sources.Wire.{Wire}
use Rattle.netlist_types.specs.Lawful.{IsWireBelow}
use Rattle.link_items.proofs.Pinned.{wires_below}
use Rattle.link_items.proofs.joins.join_port.Goals as goal

pub join_bits-requires-clause-wires : goal.join_bits-requires-clause-wires
join_bits-requires-clause-wires c =
    subst (λ (ws : List Wire). All (IsWireBelow (length c.args.outer.now)) ws) (sym c.wires_of.ensures)
    (wires_below (length c.args.outer.now) c.args.conns.now c.args.port.now.name c.requires.below)
