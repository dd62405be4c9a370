use Rattle.std.proofs.Common.{◌≡◌, ◌∙◌, sym, arith, subst, ℕ, length}
use Rattle.net_model.specs.Netlist.{AllBelow, IsGateInRange}
use Rattle.net_model.proofs.Settling.{All-at}
use Rattle.claim_monitor.proofs.LayerLits.{layer_lits_none, layer_lits_skip, layer_lits_more, layer_lits_all}
use Rattle.claim_monitor.proofs.layers.settle_layer.Goals as goal
use Rattle.claim_monitor.proofs.layers.settle_layer.Goals.{then-not-is_held+in_ok-literal, else-not-is_held}

pub loop-k-init : goal.loop-k-init
loop-k-init c = layer_lits_none c.args.design.now c.args.sets.now c.args.layer c.args.graph.now c.args.rows.now c.requires.rows

pub layer_literal-requires-clause-nets : goal.layer_literal-requires-clause-nets
layer_literal-requires-clause-nets c =
    λ m le.
    let d = c.args.design.now in
    let range = All-at (IsGateInRange d) d.gates c.loop-k.k c.item-gate.result.now c.item-gate.ensures c.requires.sound.in_range.gates in
    subst (λ (n : ℕ). AllBelow n c.item-gate.result.now.ins) (sym (c.loop-k.invariant.are.lens m le)) range.ins

pub loop-k-preserved : goal.loop-k-preserved
loop-k-preserved c =
    let d = c.args.design.now in
    let sets = c.args.sets.now in
    let layer = c.args.layer in
    let gate = c.item-gate.result.now in
    elim c.if-not-is_held.branch [
      | then-not-is_held+in_ok-literal w ↦
          rw (w.rows-is, w.put_in.ensures, w.graph-is) (layer_lits_more d sets layer c.args.graph.now c.args.rows.now c.loop-k.graph w.layer_literal.new.graph
          c.loop-k.rows c.loop-k.k gate w.in_ok-literal.literal c.requires.sound c.item-gate.ensures (sym c.is_held.ensures ∙ w.if-not-is_held.true)
          c.requires.rows.in_ w.layer_literal.ensures.keeps w.in_ok-literal.ensures.means c.loop-k.invariant)
      | else-not-is_held w ↦
          rw (w.rows-is, w.graph-is) (layer_lits_skip d sets layer c.args.graph.now c.args.rows.now c.loop-k.graph c.loop-k.rows c.loop-k.k gate
          c.item-gate.ensures (sym c.is_held.ensures ∙ w.if-not-is_held.false) c.loop-k.invariant)
    ]

pub returns-clause-settled : goal.returns-clause-settled
returns-clause-settled c =
    λ x len.
    let d = c.args.design.now in
    let all : c.loop-k.k ≡ length d.gates = omega arith in
    layer_lits_all d c.args.sets.now c.args.layer c.args.graph.now c.args.rows.now c.loop-k.graph c.loop-k.rows c.loop-k.k all c.loop-k.invariant x len
