use Rattle.std.proofs.Common.{ℕ, List, map, ap, sym, ◌++◌, ◌∙◌}
use Rattle.link_defs.specs.Hierarchy.{refs, place_of_module}
use Rattle.link_circuit.proofs.Placed.{needs_more}
use Rattle.link_circuit.proofs.orders.needs_of.Goals as goal

pub loop-k-preserved : goal.loop-k-preserved
loop-k-preserved c =
    c.in_ok-push_need.ensures
    ∙ ap (λ (ns : List ℕ). ns ++ map (place_of_module c.args.netlist.now.source.now) (refs c.item.result.now)) c.loop-k.invariant
    ∙ sym (needs_more c.args.netlist.now.source.now c.args.body.now.items c.loop-k.k c.item.result.now c.item.ensures)
