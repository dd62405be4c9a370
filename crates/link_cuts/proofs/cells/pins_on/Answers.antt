use Rattle.std.proofs.Common.{◌≡◌, ℕ, List, get_or, ap, sym, ◌∙◌}
use Rattle.std.proofs.lemmas.Option.{get_or_from_slice_get}
use Rattle.link_defs.specs.declared.cuts.CutPin.{CutPin}
use Rattle.link_items.proofs.Listing.{push_more, map_next}
use Rattle.link_cuts.specs.Groups.{pin_on}
use Rattle.link_cuts.proofs.cells.pins_on.Goals as goal

pub loop-k-preserved : goal.loop-k-preserved
loop-k-preserved c =
    let p = c.item-pin.result.now in
    let build = λ (name : List ℕ) (net : ℕ). let q : CutPin = record { name = name; way = p.way; net = net } in q in
    let net : c.at.result ≡ get_or c.args.nets.now p.net 0 = sym (get_or_from_slice_get c.args.nets.now p.net c.at.result 0 c.at.ensures) in
    push_more _ _ _ _ _ _ c.in_ok-push.ensures.ok c.loop-k.invariant
    (ap (λ (name : List ℕ). build name c.at.result) c.in_ok-copy.ensures ∙ ap (build p.name) net)
    (map_next (pin_on c.args.nets.now) c.args.pins.now c.loop-k.k p c.item-pin.ensures)
