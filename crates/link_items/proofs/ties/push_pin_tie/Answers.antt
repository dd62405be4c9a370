use Rattle.std.proofs.Common.{List, length, ap, arith}
use Rattle.netlist_types.specs.declared.sources.Wire.{Wire}
use Rattle.link_items.proofs.Pinned.{narrow}
use Rattle.link_items.proofs.ties.push_pin_tie.Goals as goal

pub push_ties-requires : goal.push_ties-requires
push_ties-requires c =
    let few = narrow c.args.conns.now c.args.pin.now c.requires.narrow in omega (arith, few, ap (λ (ws : List Wire). length ws) c.wires_of.ensures)
