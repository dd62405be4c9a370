use Rattle.std.proofs.Common.{ℕ, ◌∙◌, ap, sym, take, arith}
use Rattle.wave_signals.specs.Signals.{scopes_text}
use Rattle.wave_signals.proofs.Splitting.{scopes_more}
use Rattle.wave_signals.proofs.splits.scopes_of.Goals as goal
use Rattle.wave_signals.proofs.splits.scopes_of.Goals.{then-name-place-eq47+in_ok-new+in_ok-push, else-name-place-eq47}

pub loop-place-preserved : goal.loop-place-preserved
loop-place-preserved c = elim c.if-name-place-eq47.branch [
  | then-name-place-eq47+in_ok-new+in_ok-push w ↦ record {
    within = omega (arith, w.rest-is);
    is = ap scopes_text (w.scopes-is ∙ w.in_ok-push.ensures.ok)
        ∙ (scopes_more c.loop-place.scopes c.args.name.now w.in_ok-new.field-0 c.loop-place.rest c.loop-place.place c.loop-place.invariant.within
        c.loop-place-test.true w.if-name-place-eq47.true w.in_ok-new.ensures c.loop-place.invariant.is
        ∙ ap (λ (n : ℕ). take n c.args.name.now) (sym w.rest-is));
  }
  | else-name-place-eq47 w ↦ record {
    within = omega (arith, w.rest-is);
    is = ap scopes_text w.scopes-is ∙ (c.loop-place.invariant.is ∙ ap (λ (n : ℕ). take n c.args.name.now) (sym w.rest-is));
  }
]
