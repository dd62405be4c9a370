use Rattle.std.proofs.Common.{◌≡◌, ◌∙◌, ℕ, suc, ◌+◌, ◌-◌, ◌<◌, List, ◌++◌, length, drop, Some, None, sym, ap, arith}
use Rattle.sdc_words.specs.Blanks.{after_blanks}
use Rattle.sdc_words.specs.Commands.{text_of, left_of}
use Rattle.sdc_pieces.specs.Pieces.{passed, after_command, body_at}
use Rattle.sdc_pieces.proofs.PieceLemmas.{next_same, pushed_parts, still, still_more, still_end, left_within, passed_is, all_left}
use Rattle.sdc_pieces.proofs.rewriting.rewritten.Goals as goal
use Rattle.sdc_pieces.proofs.rewriting.rewritten.Goals.{else-loop-place-test, then-loop-place-test+in_ok-next+in_default}

pub between-old-requires-clause-within : goal.between-old-requires-clause-within
between-old-requires-clause-within c =
    omega (arith, left_within c.loop-place.commands c.args.text.now c.loop-place.invariant.text, c.left.ensures, c.at_command-begin.ensures.within)

pub between-requires-clause-within : goal.between-requires-clause-within
between-requires-clause-within c = omega (arith, left_within c.loop-place.commands c.args.text.now c.loop-place.invariant.text, c.left-in-loop-place-2.ensures)

pub between-requires-2-clause-within : goal.between-requires-2-clause-within
between-requires-2-clause-within c = omega (arith, left_within c.loop-place.commands c.args.text.now c.loop-place.invariant.text, c.left-2.ensures)

pub loop-place-preserved : goal.loop-place-preserved
loop-place-preserved c =
    let text = c.args.text.now in
    let bodies = c.args.bodies.now in
    let commands = c.loop-place.commands in
    let place = c.loop-place.place in
    let begin = c.at_command-begin.result in
    let left = left_of c.in-Some.next in
    let s = left_of commands in
    let n = length text - (place + 1) in
    let whole : text_of begin ≡ text = c.at_command-begin.ensures.text ∙ c.loop-place.invariant.text in
    let value : Some left ≡ after_command (text_of begin) (left_of begin) = rw c.in-Some.is at c.in_ok-next.ensures.value in
    let read : after_command text s ≡ Some left = next_same commands begin text (Some left) whole c.at_command-begin.ensures.left value in
    let gap : c.between.result.now ≡ passed s (after_blanks s) =
    c.between.ensures ∙ passed_is commands text (left_of begin) c.left-in-loop-place-2.result c.left-in-loop-place-3.result c.loop-place.invariant.text
    c.left-in-loop-place-2.ensures c.left-in-loop-place-3.ensures ∙ ap (passed s) c.at_command-begin.ensures.left in
    let old : c.between-old.result.now ≡ passed (after_blanks s) left =
    c.between-old.ensures ∙ passed_is begin text left c.left.result c.left-in-loop-place.result whole c.left.ensures c.left-in-loop-place.ensures
    ∙ ap (λ (t : List ℕ). passed t left) c.at_command-begin.ensures.left in
    let body : c.body_at.result.now ≡ body_at (passed (after_blanks s) left) bodies place =
    c.body_at.ensures ∙ ap (λ (t : List ℕ). body_at t bodies place) old in
    let more = still_more (length text - place) n text s left bodies place (omega arith) read in
    let pushed : c.extend_from_slice-in-loop-place.new.self.items ++ still n text left (drop (suc place) bodies)
    ≡ c.loop-place.new.items
    ++ (passed s (after_blanks s) ++ (body_at (passed (after_blanks s) left) bodies place ++ still n text left (drop (suc place) bodies))) =
    pushed_parts c.loop-place.new.items _ _ _ _ (still n text left (drop (suc place) bodies))
    (c.in_ok-extend_from_slice.ensures.items ∙ ap (λ (t : List ℕ). c.loop-place.new.items ++ t) gap)
    (c.in_ok-extend_from_slice-2.ensures.items ∙ ap (λ (t : List ℕ). c.extend_from_slice.new.self.items ++ t) body) in
    let later : place + 1 ≡ suc place = omega arith in
    record {
      text = (rw c.in-Some.is at c.in_ok-next.ensures.text) ∙ whole;
      told = c.loop-place.invariant.told ∙ ap (λ (t : List ℕ). c.loop-place.new.items ++ t) more ∙ sym pushed
          ∙ ap (λ (k : ℕ). c.extend_from_slice-in-loop-place.new.self.items ++ still n text left (drop k bodies)) (sym later);
    }

pub returns : goal.returns
returns c =
    let text = c.args.text.now in
    let s = left_of c.loop-place.commands in
    let bodies = drop c.loop-place.place c.args.bodies.now in
    let n = length text - c.loop-place.place in
    let none : 0 < n → after_command text s ≡ None = elim c.loop-place-test.branch [
      | else-loop-place-test w ↦ λ some. absurd (omega arith)
      | then-loop-place-test+in_ok-next+in_default w ↦ λ some.
          let begin = w.at_command-begin.result in
          let whole : text_of begin ≡ text = w.at_command-begin.ensures.text ∙ c.loop-place.invariant.text in
          let value : None ≡ after_command (text_of begin) (left_of begin) = rw w.in_default.is at w.in_ok-next.ensures.value in
          next_same c.loop-place.commands begin text None whole w.at_command-begin.ensures.left value
    ] in
    let end : still n text s bodies ≡ s = still_end n text s bodies none in
    let rest : c.between-2.result.now ≡ s =
    c.between-2.ensures ∙ all_left c.loop-place.commands text c.left-2.result c.loop-place.invariant.text c.left-2.ensures in
    c.in_ok-extend_from_slice-3.ensures.items ∙ ap (λ (t : List ℕ). c.loop-place.new.items ++ t) (rest ∙ sym end) ∙ sym c.loop-place.invariant.told
