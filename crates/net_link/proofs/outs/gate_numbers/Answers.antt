use Rattle.std.proofs.Common.{map, ap, sym, ◌∙◌, arith}
use Rattle.std.proofs.lemmas.List.{take_all}
use Rattle.link_items.proofs.Listing.{push_more, map_next}
use Rattle.net_model.specs.declared.netlist.Gate.{Gate}
use Rattle.net_link.specs.Numbers.{number_in}
use Rattle.net_link.proofs.Listed.{map_map}
use Rattle.net_link.proofs.outs.gate_numbers.Goals as goal

pub loop-k-preserved : goal.loop-k-preserved
loop-k-preserved c =
    let f = λ (g : Gate). number_in c.args.n.now.numbers.now c.args.n.now.nets g.out in
    push_more _ _ _ _ _ _ c.in_ok-push.ensures.ok c.loop-k.invariant c.number-net.ensures (map_next f c.args.gates.now c.loop-k.k c.item.result.now c.item.ensures)

pub returns : goal.returns
returns c =
    let f = λ (g : Gate). number_in c.args.n.now.numbers.now c.args.n.now.nets g.out in
    c.loop-k.invariant ∙ ap (λ xs. map f xs) (take_all c.loop-k.k c.args.gates.now (omega arith))
    ∙ sym (map_map (number_in c.args.n.now.numbers.now c.args.n.now.nets) (λ (g : Gate). g.out) c.args.gates.now)
