use Rattle.std.proofs.Common.{ℕ, List, [], ◌∷◌, ◌++◌, ap, sym, ◌∙◌, arith}
use Rattle.link_defs.specs.declared.cuts.CutPin.{CutPin}
use Rattle.link_defs.specs.Judged.{pin_at}
use Rattle.link_items.proofs.Listing.{step_more}
use Rattle.link_clocks.proofs.Leaving.{pins_next, pins_past}
use Rattle.link_clocks.proofs.pins.push_pins.Goals as goal
use Rattle.link_clocks.proofs.pins.push_pins.Goals.{then-k-len+in_ok-name+in_ok-push, else-k-len}

pub loop-k-preserved : goal.loop-k-preserved
loop-k-preserved c =
    let names = c.args.names.now in
    let nets = c.args.nets.now in
    elim c.if-k-len.branch [
      | then-k-len+in_ok-name+in_ok-push w ↦
          step_more c.args.pins.now c.loop-k.pins c.if-k-len.pins _ _ _
          (w.pins-is ∙ w.in_ok-push.ensures.ok
          ∙ ap (λ (x : List ℕ). c.loop-k.pins ++ pin_at c.args.way (x, w.at-net.result) ∷ []) w.in_ok-name.ensures) c.loop-k.invariant
          (pins_next c.args.way names nets c.loop-k.k w.item.result.now w.at-net.result w.item.ensures w.at-net.ensures)
      | else-k-len w ↦
          w.pins-is ∙ c.loop-k.invariant
          ∙ ap (λ (ps : List CutPin). c.args.pins.now ++ ps)
          (sym (pins_past c.args.way names nets c.loop-k.k (omega (arith, w.if-k-len.false, c.len.ensures))))
    ]
