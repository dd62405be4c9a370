use Rattle.std.proofs.Common.{ℕ, map, ap, ◌∙◌, arith, ◌-◌}
use Rattle.std.proofs.lemmas.List.{take_all}
use Rattle.link_items.proofs.Listing.{push_more, map_next}
use Rattle.net_model.specs.declared.claims.PinRef.TheVariants.{GateIn}
use Rattle.net_model.specs.declared.netlist.Gate.{Gate}
use Rattle.net_link.specs.Numbers.{number_in}
use Rattle.net_link.proofs.pins.gate_loads.Goals as goal

pub loop-k-preserved : goal.loop-k-preserved
loop-k-preserved c =
    let f = λ (g : Gate). GateIn (number_in c.args.n.now.numbers.now c.args.n.now.nets g.out - c.args.n.now.sources) c.args.place in
    push_more _ _ _ _ _ _ c.in_ok-push.ensures.ok c.loop-k.invariant (ap (λ (k : ℕ). GateIn k c.args.place) c.gate-gate.ensures) (map_next f c.args.gates.now c.loop-k.k c.item.result.now c.item.ensures)

pub returns : goal.returns
returns c =
    let f = λ (g : Gate). GateIn (number_in c.args.n.now.numbers.now c.args.n.now.nets g.out - c.args.n.now.sources) c.args.place in
    c.loop-k.invariant ∙ ap (λ xs. map f xs) (take_all c.loop-k.k c.args.gates.now (omega arith))
