use Rattle.std.proofs.Common.{ℕ, ◌<◌, List, [], ◌++◌, length, ap, sym, ◌∙◌, arith}
use Rattle.std.proofs.lemmas.Option.{get_or_from_slice_get}
use Rattle.link_defs.specs.declared.cuts.Way.{Way}
use Rattle.link_items.proofs.Listing.{all_at, step_more}
use Rattle.cut_source.specs.Pins.{bit_pins, wire_pins, port_way}
use Rattle.cut_source.proofs.Leaving.{flat_zip_next, flat_zip_all}
use Rattle.cut_source.proofs.stub_items.push_bits.Goals as goal

pub item-name-requires : goal.item-name-requires
item-name-requires c = all_at (λ (n : ℕ). n < length c.args.stub.now.nets) c.args.port.now.bits c.requires c.loop-k.k c.at.result c.at.ensures

pub loop-k-preserved : goal.loop-k-preserved
loop-k-preserved c =
    let stub = c.args.stub.now in
    let port = c.args.port.now in
    let wire = c.wire_at-wire.result in
    let made = c.in_ok-push_wire.ensures
    ∙ ap (λ (w : Way). c.loop-k.pins ++ wire_pins c.item-name.result.now w wire) c.port_way.ensures
    ∙ ap (λ (name : List ℕ). c.loop-k.pins ++ wire_pins name (port_way port.dir) wire)
    (sym (get_or_from_slice_get stub.nets c.at.result c.item-name.result.now [] c.item-name.ensures)) in
    step_more c.args.pins.now _ _ _ _ _ made c.loop-k.invariant
    (flat_zip_next (bit_pins stub (port_way port.dir)) port.bits c.args.wires.now c.loop-k.k c.at.result wire c.at.ensures c.wire_at-wire.ensures)

pub returns : goal.returns
returns c =
    let port = c.args.port.now in
    c.loop-k.invariant
    ∙ ap (λ xs. c.args.pins.now ++ xs) (flat_zip_all (bit_pins c.args.stub.now (port_way port.dir)) port.bits c.args.wires.now c.loop-k.k (omega arith))
