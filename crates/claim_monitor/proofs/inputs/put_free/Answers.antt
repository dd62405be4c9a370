use Rattle.std.proofs.Common.{◌+◌, ℕ, List, sym, ap, subst, ◌∙◌, arith, length}
use Rattle.net_model.specs.Cycles.{bit_at}
use Rattle.and_graphs.specs.Graphs.{Means}
use Rattle.claim_monitor.proofs.InputLits.{FreeDone, free_below-zero, free_low, free_more, held_more, free_most, free_put, free_passed}
use Rattle.claim_monitor.proofs.inputs.put_free.Goals as goal
use Rattle.claim_monitor.proofs.inputs.put_free.Goals.{then-not-is_held+in_ok-literal, else-not-is_held}

pub loop-input-init : goal.loop-input-init
loop-input-init c = record {
  place = sym (free_below-zero c.args.design.now);
  done = record { len = c.requires.len; in_ = c.requires.in_; free = λ x len i low. absurd (omega arith) };
}

pub variable-requires : goal.variable-requires
variable-requires c =
    let low = free_low c.args.design.now c.loop-input.input (length c.args.design.now.inputs) (omega arith) (sym c.is_held.ensures ∙ c.if-not-is_held.true) in
    let place = c.loop-input.invariant.place in
    let front = c.requires.front in
    omega arith

pub overflow_add-place : goal.overflow_add-place
overflow_add-place c = omega (arith, c.loop-input.invariant.place, free_most c.args.design.now c.loop-input.input)

pub loop-input-preserved : goal.loop-input-preserved
loop-input-preserved c =
    let d = c.args.design.now in
    let g = c.args.graph.now in
    let k = c.loop-input.input in
    let old = c.loop-input.invariant in
    elim c.if-not-is_held.branch [
      | then-not-is_held+in_ok-literal w ↦
          let free = sym c.is_held.ensures ∙ w.if-not-is_held.true in
          record {
            place = w.place-is ∙ (ap (λ (n : ℕ). n + 1) old.place ∙ sym (free_more d k free));
            done =
                subst (λ (ins : List ℕ). FreeDone g d ins (k + 1)) (sym (w.ins-is ∙ w.put.ensures))
                (free_put g d c.loop-input.ins k w.in_ok-literal.literal (omega arith)
                (subst (λ (p : ℕ). Means g w.in_ok-literal.literal (λ x. bit_at x p)) old.place w.in_ok-literal.ensures) old.done);
          }
      | else-not-is_held w ↦
          let held = sym c.is_held.ensures ∙ w.if-not-is_held.false in
          record {
            place = w.place-is ∙ (old.place ∙ sym (held_more d k held));
            done = subst (λ (ins : List ℕ). FreeDone g d ins (k + 1)) (sym w.ins-is) (free_passed g d c.loop-input.ins k held old.done);
          }
    ]
