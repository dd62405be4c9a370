use Rattle.std.proofs.Common.{List, ◌++◌, length, ap, sym, ◌∙◌, arith}
use Rattle.std.specs.Prelude.{flat_map, zip}
use Rattle.std.proofs.lemmas.List.{take_all}
use Rattle.net_model.specs.Netlist.{AllBelow}
use Rattle.netlist_types.specs.declared.sources.Port.{Port}
use Rattle.netlist_types.specs.declared.sources.Wire.{Wire}
use Rattle.link_items.proofs.Listing.{all_at, flat_next}
use Rattle.cut_source.specs.Pins.{port_pins, bit_pins, port_way}
use Rattle.cut_source.proofs.stub_items.stub_pins.Goals as goal

pub push_bits-requires : goal.push_bits-requires
push_bits-requires c =
    all_at (λ (p : Port). AllBelow (length c.args.stub.now.nets) p.bits) c.args.stub.now.ports c.requires c.loop-k.k c.item-port.result.now
    c.item-port.ensures

pub loop-k-preserved : goal.loop-k-preserved
loop-k-preserved c =
    let pins = port_pins c.args.stub.now c.args.conns.now in
    c.in_ok-push_bits.ensures
    ∙ ap (λ (ws : List Wire). c.loop-k.pins ++ flat_map (bit_pins c.args.stub.now (port_way c.item-port.result.now.dir)) (zip c.item-port.result.now.bits ws))
    c.wires_of.ensures
    ∙ ap (λ ps. ps ++ pins c.item-port.result.now) c.loop-k.invariant
    ∙ sym (flat_next pins c.args.stub.now.ports c.loop-k.k c.item-port.result.now c.item-port.ensures)

pub returns : goal.returns
returns c =
    c.loop-k.invariant ∙ ap (λ (ps : List Port). flat_map (port_pins c.args.stub.now c.args.conns.now) ps)
    (take_all c.loop-k.k c.args.stub.now.ports (omega arith))
