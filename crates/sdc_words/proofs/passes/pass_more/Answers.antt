use Rattle.std.proofs.Common.{suc, ◌∙◌, ◌++◌, ◌∷◌, [], ap, length, refl, sym, arith}
use Rattle.std.proofs.lemmas.Result.{err_from_is_err_and}
use Rattle.sdcv_base.specs.Cursors.{rest, text_of}
use Rattle.sdc_words.specs.Words.{words_after}
use Rattle.sdc_words.proofs.ReadLemmas.{fails_through, past_ok, past_err}
use Rattle.sdc_words.proofs.WordLemmas.{words_end, words_more, words_bad, word_of_past, word_bad}
use Rattle.sdc_words.proofs.passes.pass_more.Goals as goal

pub returns-then-is_end-clause-value : goal.returns-then-is_end-clause-value
returns-then-is_end-clause-value c = λ found.
    let (m, more, room, told) = c.words.invariant.told found in
    let end = sym (rw (c.rest.ensures, c.pass_gaps.ensures.rest) at c.is_end.ensures) ∙ c.if-is_end.true in
    past_ok (words_after c.args.opened found) _ _ _ _ (told ∙ words_end c.words.opened more _ (rest c.words.c) m (omega arith) end)
    ∙ rw c.pass_gaps.ensures.rest refl

pub returns-in_err-pass_word-clause-value : goal.returns-in_err-pass_word-clause-value
returns-in_err-pass_word-clause-value c = λ found.
    let (m, more, room, told) = c.words.invariant.told found in
    let on = sym (rw (c.rest.ensures, c.pass_gaps.ensures.rest) at c.is_end.ensures) ∙ c.if-is_end.false in
    let text = c.pass_gaps.ensures.text ∙ c.words.invariant.text in
    let p = err_from_is_err_and c.from_residual.result c.from_residual.ensures.1 in
    rw (p.1, p.2) (fails_through _ _ (ap length text) c.in_err-pass_word.field-0.0 _ _ c.in_err-pass_word.ensures.value
    (λ why bad. past_err (words_after c.args.opened found) _ _ why (told ∙ words_bad c.words.opened more (length (text_of c.args.c.now)) (rest c.words.c) m why
    (omega arith) on (word_bad _ _ _ why (rw (c.pass_gaps.ensures.rest, text) at bad)))))

pub words-init : goal.words-init
words-init c = record { text = refl; within = omega arith; told = λ found. (suc (length (rest c.args.c.now)), found, omega arith, refl) }

pub words-preserved : goal.words-preserved
words-preserved c =
    let text = c.pass_gaps.ensures.text ∙ c.words.invariant.text in
    let less = c.in_ok-pass_word.ensures.shorter in
    let no_more = c.pass_gaps.ensures.within in
    record {
      text = c.in_ok-pass_word.ensures.text ∙ text;
      within = omega arith;
      told = λ found.
          let (m, more, room, told) = c.words.invariant.told found in
          let on = sym (rw (c.rest.ensures, c.pass_gaps.ensures.rest) at c.is_end.ensures) ∙ c.if-is_end.false in
          let (x, good) = word_of_past _ _ _ _ _ (rw (c.pass_gaps.ensures.rest, text) at c.in_ok-pass_word.ensures.value) in
          let (n, one, step) = words_more c.words.opened more (length (text_of c.args.c.now)) (rest c.words.c) m _ x _ (omega arith) on good in
          (n, more ++ x ∷ [], omega arith, told ∙ step);
    }
