use Rattle.std.proofs.Common.{List, ◌++◌, ap, ◌∙◌, arith}
use Rattle.std.specs.Prelude.{flat_map}
use Rattle.std.proofs.lemmas.List.{take_all}
use Rattle.netlist_types.specs.declared.sources.Wire.{Wire}
use Rattle.link_items.proofs.Listing.{step_more, flat_next}
use Rattle.cut_source.specs.Pins.{wire_pins}
use Rattle.cut_source.proofs.cell_items.push_wires.Goals as goal

pub loop-k-preserved : goal.loop-k-preserved
loop-k-preserved c =
    step_more c.args.pins.now _ _ _ _ _ c.in_ok-push_wire.ensures c.loop-k.invariant
    (flat_next (wire_pins c.args.name.now c.args.way) c.args.wires.now c.loop-k.k c.wire_at-wire.result c.wire_at-wire.ensures)

pub returns : goal.returns
returns c =
    c.loop-k.invariant ∙ ap (λ (ws : List Wire). c.args.pins.now ++ flat_map (wire_pins c.args.name.now c.args.way) ws)
    (take_all c.loop-k.k c.args.wires.now (omega arith))
