use Rattle.std.proofs.Common.{◌∙◌, ◌++◌, ◌∷◌, [], Bool, List, map, take, ap, sym, arith}
use Rattle.net_model.specs.Form.{value}
use Rattle.net_model.specs.Netlist.{IsGateInRange}
use Rattle.net_model.proofs.Settling.{All-at}
use Rattle.frame_unroll.specs.Counting.{marks}
use Rattle.frame_unroll.specs.Counted.{gate_marks}
use Rattle.frame_unroll.proofs.Tabled.{mapped_take}
use Rattle.frame_unroll.proofs.counted_places.gate_places.Goals as goal

pub counts-requires-clause-few : goal.counts-requires-clause-few
counts-requires-clause-few c =
    let d = c.args.design.now in
    let range = All-at (IsGateInRange d) d.gates c.loop-k.k c.item-gate.result.now c.item-gate.ensures c.requires.sound.in_range.gates in
    omega (arith, range.few, c.len.ensures)

pub counts-requires-clause-over : goal.counts-requires-clause-over
counts-requires-clause-over c =
    let d = c.args.design.now in
    rw c.len.ensures (All-at (IsGateInRange d) d.gates c.loop-k.k c.item-gate.result.now c.item-gate.ensures c.requires.sound.in_range.gates).func

pub loop-k-preserved : goal.loop-k-preserved
loop-k-preserved c =
    let coding = c.args.coding in
    let g = c.item-gate.result.now in
    c.in_ok-push.ensures.ok
    ∙ (ap (λ (xs : List (List Bool)). xs ++ c.in_ok-counts.field-0 ∷ []) c.loop-k.invariant
    ∙ (ap (λ (ms : List Bool). map (gate_marks coding) (take c.loop-k.k c.args.design.now.gates) ++ ms ∷ []) (c.in_ok-counts.ensures.are
    ∙ ap (marks coding (value g.func)) c.len.ensures)
    ∙ sym (mapped_take (gate_marks coding) c.args.design.now.gates c.loop-k.k g c.item-gate.ensures)))
