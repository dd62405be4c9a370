use Rattle.std.proofs.Common.{◌≡◌, ◌∙◌, ◌++◌, ℕ, List, length, ap, sym, refl, arith, append_assoc, append-nil, length-drop}
use Rattle.sdcv_base.specs.Cursors.{rest}
use Rattle.lib_words.specs.Blanks.{comment_len}
use Rattle.lib_words.proofs.ValueLemmas.{spaced_end, spaced_byte, spaced_comment}
use Rattle.lib_words.proofs.values.spaced.Goals as goal

pub pieces-preserved-then-len-eq0 : goal.pieces-preserved-then-len-eq0
pieces-preserved-then-len-eq0 c =
    let (m, room, told) = c.pieces.invariant in
    let s = rest c.pieces.c in
    let none : comment_len s ≡ 0 = rw c.rest.ensures at (sym c.comment_len-len.ensures.value) ∙ c.if-len-eq0.true in
    let some = c.in-Some.ensures.0 in
    let (k, one, step) = spaced_byte m s none some (omega arith) in
    let less = length-drop 1 s in
    let left = ap length c.bump.ensures.rest in (
      k,
      omega arith,
      told ∙ ap (λ (t : List ℕ). c.pieces.found.items ++ t) step ∙ rw (c.in_ok-push.ensures.items, c.bump.ensures.rest, c.in-Some.ensures.1, append_assoc) refl,
    )

pub pieces-preserved : goal.pieces-preserved
pieces-preserved c =
    let (m, room, told) = c.pieces.invariant in
    let s = rest c.pieces.c in
    let n = c.comment_len-len.result in
    let some = c.in-Some.ensures.0 in
    let (k, one, step) = spaced_comment m n s (sym (rw c.rest.ensures at c.comment_len-len.ensures.value)) (omega arith) some (omega arith) in
    let less = length-drop n s in
    let left = ap length c.skip.ensures.rest in (
      k,
      omega arith,
      told ∙ ap (λ (t : List ℕ). c.pieces.found.items ++ t) step ∙ rw (c.in_ok-push-2.ensures.items, c.skip.ensures.rest, append_assoc) refl,
    )

pub returns : goal.returns
returns c =
    let (m, room, told) = c.pieces.invariant in
    let none : length (rest c.pieces.c) ≡ 0 = ap length c.in_default.ensures in
    sym (told ∙ ap (λ (t : List ℕ). c.pieces.found.items ++ t) (spaced_end m (rest c.pieces.c) none) ∙ append-nil c.pieces.found.items)
