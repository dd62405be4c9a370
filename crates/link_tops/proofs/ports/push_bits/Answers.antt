use Rattle.std.proofs.Common.{◌≡◌, ◌<◌, ℕ, List, [], ◌∷◌, ◌++◌, length, ap, sym, ◌∙◌}
use Rattle.std.specs.Prelude.{Option}
use Rattle.std.proofs.lemmas.Option.{get_or_from_slice_get}
use Rattle.linked_types.specs.declared.names.PortName.{PortName}
use Rattle.link_items.proofs.Listing.{all_at, step_more, map_next}
use Rattle.link_tops.specs.Ports.{bit_name}
use Rattle.link_tops.proofs.ports.push_bits.Goals as goal

pub item-requires : goal.item-requires
item-requires c = all_at (λ (n : ℕ). n < length c.args.body.now.nets) c.args.port.now.bits c.requires c.loop-k.k c.at-net.result c.at-net.ensures

pub loop-k-preserved : goal.loop-k-preserved
loop-k-preserved c =
    let named = c.in_ok-name.ensures ∙ sym (get_or_from_slice_get c.args.body.now.nets c.at-net.result c.item.result.now [] c.item.ensures) in
    let build = λ (name : List ℕ) (bus : Option (List ℕ)). let r : PortName = record { name = name; bus = bus } in r in
    let same : build c.in_ok-name.name c.in_ok-bus.bus ≡ bit_name c.args.body.now c.args.port.now c.at-net.result =
    ap (λ (n : List ℕ). build n c.in_ok-bus.bus) named ∙ ap (λ (b : Option (List ℕ)). build (bit_name c.args.body.now c.args.port.now c.at-net.result).name b)
    c.in_ok-bus.ensures in
    step_more c.args.list.now _ _ _ _ _
    (c.in_ok-push.ensures.ok ∙ ap (λ (x : PortName). c.loop-k.list ++ x ∷ []) same) c.loop-k.invariant
    (map_next (bit_name c.args.body.now c.args.port.now) c.args.port.now.bits c.loop-k.k c.at-net.result c.at-net.ensures)
