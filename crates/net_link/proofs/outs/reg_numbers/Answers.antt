use Rattle.std.proofs.Common.{map, ap, sym, ◌∙◌, arith}
use Rattle.std.proofs.lemmas.List.{take_all}
use Rattle.link_items.proofs.Listing.{push_more, map_next}
use Rattle.net_model.specs.declared.netlist.RegOut.{RegOut}
use Rattle.net_link.specs.Numbers.{number_in}
use Rattle.net_link.proofs.Listed.{map_map}
use Rattle.net_link.proofs.outs.reg_numbers.Goals as goal

pub loop-k-preserved : goal.loop-k-preserved
loop-k-preserved c =
    let f = λ (o : RegOut). number_in c.args.n.now.numbers.now c.args.n.now.nets o.net in
    push_more _ _ _ _ _ _ c.in_ok-push.ensures.ok c.loop-k.invariant c.number-net.ensures (map_next f c.args.outs.now c.loop-k.k c.at.result c.at.ensures)

pub returns : goal.returns
returns c =
    let f = λ (o : RegOut). number_in c.args.n.now.numbers.now c.args.n.now.nets o.net in
    c.loop-k.invariant ∙ ap (λ xs. map f xs) (take_all c.loop-k.k c.args.outs.now (omega arith))
    ∙ sym (map_map (number_in c.args.n.now.numbers.now c.args.n.now.nets) (λ (o : RegOut). o.net) c.args.outs.now)
