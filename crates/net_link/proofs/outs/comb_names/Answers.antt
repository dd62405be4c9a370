use Rattle.std.proofs.Common.{map, ap, ◌∙◌, arith}
use Rattle.std.proofs.lemmas.List.{take_all}
use Rattle.link_items.proofs.Listing.{push_more, map_next}
use Rattle.cell_types.specs.declared.libraries.CombOut.{CombOut}
use Rattle.net_link.proofs.outs.comb_names.Goals as goal

pub loop-k-preserved : goal.loop-k-preserved
loop-k-preserved c =
    let f = λ (o : CombOut). o.name in
    push_more _ _ _ _ _ _ c.in_ok-push.ensures.ok c.loop-k.invariant c.in_ok-name.ensures (map_next f c.args.outs.now c.loop-k.k c.item.result.now c.item.ensures)

pub returns : goal.returns
returns c =
    let f = λ (o : CombOut). o.name in
    c.loop-k.invariant ∙ ap (λ xs. map f xs) (take_all c.loop-k.k c.args.outs.now (omega arith))
