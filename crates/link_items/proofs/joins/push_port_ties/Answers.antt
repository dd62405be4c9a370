use Rattle.std.proofs.Common.{◌++◌, List, ap, ◌∙◌}
use Rattle.netlist_types.specs.declared.sources.Port.{Port}
use Rattle.netlist_types.specs.declared.sources.Wire.{Wire}
use Rattle.link_defs.specs.Hierarchy.{wires_of}
use Rattle.link_defs.specs.Parts.{bit_ties}
use Rattle.link_items.proofs.Listing.{step_more, flat_next}
use Rattle.link_items.proofs.joins.push_port_ties.Goals as goal

pub loop-k-preserved : goal.loop-k-preserved
loop-k-preserved c =
    step_more c.args.parts.now _ _ _ _ _
    (c.in_ok-push_bit_ties.ensures
    ∙ ap (λ (ws : List Wire). c.loop-k.parts ++ bit_ties c.args.first c.item-port.result.now.bits ws) c.wires_of.ensures) c.loop-k.invariant
    (flat_next (λ (p : Port). bit_ties c.args.first p.bits (wires_of c.args.conns.now p.name)) c.args.body.now.ports c.loop-k.k c.item-port.result.now
    c.item-port.ensures)
