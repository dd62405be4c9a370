use Rattle.std.proofs.Common.{◌∙◌, ◌<◌, sym, arith}
use Rattle.std.proofs.lemmas.List.Elements.{All-contains}
use Rattle.std.proofs.lemmas.Option.{slice_get_within}
use Rattle.net_model.specs.Netlist.{IsGateInRange}
use Rattle.net_model.proofs.Settling.{All-at}
use Rattle.net_model.proofs.Driving.{gates_marked_more, out_of_order, driven_twice}
use Rattle.net_model.proofs.drivers.mark_gates.Goals as goal

pub returns-in-Some-clause-err : goal.returns-in-Some-clause-err
returns-in-Some-clause-err c =
    let d = c.args.design.now in
    let range = All-at (IsGateInRange d) d.gates c.loop-k.k c.item-gate.result.now c.item-gate.ensures c.requires.range.gates in
    let low = All-contains (λ n. n < d.nets) c.item-gate.result.now.ins c.in-Some.field-0 range.ins c.in-Some.ensures.listed in
    out_of_order d c.loop-k.marks c.loop-k.k c.item-gate.result.now c.in-Some.field-0 c.item-gate.ensures c.in-Some.ensures.listed low
    c.in-Some.ensures.all c.loop-k.invariant

pub mark-requires : goal.mark-requires
mark-requires c =
    let d = c.args.design.now in
    let range = All-at (IsGateInRange d) d.gates c.loop-k.k c.item-gate.result.now c.item-gate.ensures c.requires.range.gates in
    rw c.loop-k.invariant.len range.out

pub returns-then-mark-clause-err : goal.returns-then-mark-clause-err
returns-then-mark-clause-err c =
    let d = c.args.design.now in
    let range = All-at (IsGateInRange d) d.gates c.loop-k.k c.item-gate.result.now c.item-gate.ensures c.requires.range.gates in
    driven_twice d c.loop-k.marks c.loop-k.k c.item-gate.result.now c.item-gate.ensures range.out (sym c.mark.ensures.was ∙ c.if-mark.true) c.loop-k.invariant

pub loop-k-preserved : goal.loop-k-preserved
loop-k-preserved c =
    let d = c.args.design.now in
    let range = All-at (IsGateInRange d) d.gates c.loop-k.k c.item-gate.result.now c.item-gate.ensures c.requires.range.gates in
    rw c.mark.ensures.now (gates_marked_more d c.loop-k.marks c.loop-k.k c.item-gate.result.now c.item-gate.ensures range.ins range.out
    c.in_default.ensures.all (sym c.mark.ensures.was ∙ c.if-mark.false) c.loop-k.invariant)

pub returns-clause-order : goal.returns-clause-order
returns-clause-order c =
    λ k g at. let within = slice_get_within c.args.design.now.gates k g at in
    c.loop-k.invariant.order k (omega arith) g at
