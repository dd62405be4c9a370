use Rattle.std.proofs.Common.{◌∙◌, ◌++◌, ◌&&◌, not, ℕ, List, append_assoc, append-nil, ap, refl, sym, arith}
use Rattle.std.proofs.lemmas.List.{at_drop_more, at_drop_all}
use Rattle.texts.specs.Fronts.{has_two}
use Rattle.sdc_words.specs.Braces.{joined_from}
use Rattle.sdc_words.proofs.BraceLemmas.{joined_passed, joined_kept}
use Rattle.sdc_words.proofs.braces.joined.Goals as goal

pub loop-i-preserved-then-is_break : goal.loop-i-preserved-then-is_break
loop-i-preserved-then-is_break c =
    let s = c.args.text.now in
    let i = c.loop-i.i in
    let taken = c.loop-i.is_taken in
    let here = at_drop_more (joined_from taken) s i 0 c.loop-i-test.true in
    let front = at_drop_more (λ t. has_two 92 10 t && not taken) s i 0 c.loop-i-test.true in
    let break = sym front ∙ sym (rw c.after.ensures at c.is_break.ensures) ∙ c.if-is_break.true in
    c.loop-i.invariant ∙ ap (λ (t : List ℕ). c.loop-i.bytes.items ++ t) (here ∙ joined_passed taken _ _ break)

pub loop-i-preserved : goal.loop-i-preserved
loop-i-preserved c =
    let s = c.args.text.now in
    let i = c.loop-i.i in
    let taken = c.loop-i.is_taken in
    let here = at_drop_more (joined_from taken) s i 0 c.loop-i-test.true in
    let front = at_drop_more (λ t. has_two 92 10 t && not taken) s i 0 c.loop-i-test.true in
    let kept = sym front ∙ sym (rw c.after.ensures at c.is_break.ensures) ∙ c.if-is_break.false in
    c.loop-i.invariant ∙ ap (λ (t : List ℕ). c.loop-i.bytes.items ++ t) (here ∙ joined_kept taken _ _ kept)
    ∙ rw (c.in_ok-push.ensures.items, c.joined_byte.ensures, c.takes_next-is_taken.ensures, append_assoc) refl

pub returns : goal.returns
unfolding joined_from
returns c =
    let items = c.loop-i.bytes.items in
    let none = at_drop_all (joined_from c.loop-i.is_taken) c.args.text.now c.loop-i.i (omega arith) in
    c.from_vec.ensures ∙ sym (c.loop-i.invariant ∙ ap (λ (t : List ℕ). items ++ t) none ∙ append-nil items)
