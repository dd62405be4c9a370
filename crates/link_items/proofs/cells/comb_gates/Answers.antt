use Rattle.std.proofs.Common.{◌∙◌, ap}
use Rattle.net_model.specs.declared.netlist.Gate.{Gate}
use Rattle.link_items.proofs.Along.{comb_gates_more}
use Rattle.link_items.proofs.Listing.{push_more}
use Rattle.link_items.proofs.cells.comb_gates.Goals as goal

pub loop-k-preserved : goal.loop-k-preserved
loop-k-preserved c =
    push_more _ _ _ _ _ _ c.in_ok-push.ensures.ok c.loop-k.invariant
    (c.in_ok-gate_of.ensures ∙ ap (λ net. let r : Gate = record { func = c.item-output.result.now.func; ins = c.args.ins.now; out = net } in r)
    c.pin_net-out.ensures)
    (comb_gates_more c.args.nets.now c.args.conns.now c.args.ins.now c.args.own c.args.outs.now c.loop-k.k c.item-output.result.now c.item-output.ensures)
