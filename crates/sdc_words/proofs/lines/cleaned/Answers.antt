use Rattle.std.proofs.Common.{◌∙◌, ◌++◌, ℕ, List, append_assoc, append-nil, ap, refl, sym, arith}
use Rattle.std.proofs.lemmas.List.{at_drop_more, at_drop_all}
use Rattle.sdc_words.specs.Lines.{is_passed, cleaned}
use Rattle.sdc_words.proofs.LineLemmas.{cleaned_passed, cleaned_kept}
use Rattle.sdc_words.proofs.lines.cleaned.Goals as goal

pub loop-i-preserved-then-is_passed : goal.loop-i-preserved-then-is_passed
loop-i-preserved-then-is_passed c =
    let s = c.args.text.now in
    let i = c.loop-i.i in
    let here = at_drop_more cleaned s i 0 c.loop-i-test.true in
    let passed = sym (at_drop_more is_passed s i 0 c.loop-i-test.true) ∙ sym (rw c.after.ensures at c.is_passed.ensures) ∙ c.if-is_passed.true in
    c.loop-i.invariant ∙ ap (λ (t : List ℕ). c.loop-i.clean.items ++ t) (here ∙ cleaned_passed _ _ passed)

pub loop-i-preserved : goal.loop-i-preserved
loop-i-preserved c =
    let s = c.args.text.now in
    let i = c.loop-i.i in
    let here = at_drop_more cleaned s i 0 c.loop-i-test.true in
    let kept = sym (at_drop_more is_passed s i 0 c.loop-i-test.true) ∙ sym (rw c.after.ensures at c.is_passed.ensures) ∙ c.if-is_passed.false in
    c.loop-i.invariant ∙ ap (λ (t : List ℕ). c.loop-i.clean.items ++ t) (here ∙ cleaned_kept _ _ kept) ∙ rw (c.in_ok-push.ensures.items, append_assoc) refl

pub returns : goal.returns
unfolding cleaned
returns c = sym (c.loop-i.invariant ∙ ap (λ (t : List ℕ). c.loop-i.clean.items ++ t) (at_drop_all cleaned c.args.text.now c.loop-i.i (omega arith))
    ∙ append-nil _)
