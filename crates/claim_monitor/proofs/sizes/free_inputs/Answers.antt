use Rattle.std.proofs.Common.{sym, ◌∙◌, ap, ◌+◌, ℕ, arith}
use Rattle.claim_monitor.proofs.InputLits.{free_below-zero, free_more, held_more, free_most}
use Rattle.claim_monitor.proofs.sizes.free_inputs.Goals as goal
use Rattle.claim_monitor.proofs.sizes.free_inputs.Goals.{then-not-is_held, else-not-is_held}

pub loop-input-init : goal.loop-input-init
loop-input-init c = sym (free_below-zero c.args.design.now)

pub overflow_add-count : goal.overflow_add-count
overflow_add-count c = omega (arith, c.loop-input.invariant, free_most c.args.design.now c.loop-input.input)

pub loop-input-preserved : goal.loop-input-preserved
loop-input-preserved c =
    elim c.if-not-is_held.branch [
      | then-not-is_held w ↦ w.count-is ∙ (ap (λ (n : ℕ). n + 1) c.loop-input.invariant
          ∙ sym (free_more c.args.design.now c.loop-input.input (sym c.is_held.ensures ∙ w.if-not-is_held.true)))
      | else-not-is_held w ↦ w.count-is ∙ (c.loop-input.invariant
          ∙ sym (held_more c.args.design.now c.loop-input.input (sym c.is_held.ensures ∙ w.if-not-is_held.false)))
    ]
