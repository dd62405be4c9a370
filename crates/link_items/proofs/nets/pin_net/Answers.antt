use Rattle.std.proofs.Common.{List, All, length, subst, sym}
use Rattle.netlist_types.specs.declared.sources.Wire.{Wire}
use Rattle.netlist_types.specs.Lawful.{IsWireBelow}
use Rattle.link_items.proofs.Pinned.{wires_below}
use Rattle.link_items.proofs.nets.pin_net.Goals as goal

pub first_net-requires : goal.first_net-requires
first_net-requires c =
    subst (λ (ws : List Wire). All (IsWireBelow (length c.args.nets.now)) ws) (sym c.wires_of.ensures)
    (wires_below (length c.args.nets.now) c.args.conns.now c.args.pin.now c.requires)
