use Rattle.std.proofs.Common.{◌∙◌, ap, length, refl, sym, arith}
use Rattle.std.proofs.lemmas.Result.{err_from_is_err_and}
use Rattle.sdcv_base.specs.Cursors.{rest, text_of}
use Rattle.sdc_words.proofs.ReadLemmas.{fails_through}
use Rattle.sdc_words.proofs.WordLemmas.{words_end, words_more, words_bad}
use Rattle.sdc_words.proofs.word_lists.more_words.Goals as goal

pub returns-then-is_end-clause-value : goal.returns-then-is_end-clause-value
returns-then-is_end-clause-value c =
    let (m, room, told) = c.words.invariant.told in
    let end = sym (rw (c.rest.ensures, c.pass_gaps.ensures.rest) at c.is_end.ensures) ∙ c.if-is_end.true in
    told ∙ words_end c.words.opened c.words.words _ (rest c.words.c) m (omega arith) end ∙ rw c.pass_gaps.ensures.rest refl

pub returns-in_err-word-clause-value : goal.returns-in_err-word-clause-value
returns-in_err-word-clause-value c =
    let (m, room, told) = c.words.invariant.told in
    let on = sym (rw (c.rest.ensures, c.pass_gaps.ensures.rest) at c.is_end.ensures) ∙ c.if-is_end.false in
    let text = c.pass_gaps.ensures.text ∙ c.words.invariant.text in
    let p = err_from_is_err_and c.from_residual.result c.from_residual.ensures.1 in
    rw (p.1, p.2) (fails_through _ _ (ap length text) c.in_err-word.field-0.0 _ _ c.in_err-word.ensures.value
    (λ why bad. told ∙ words_bad c.words.opened c.words.words (length (text_of c.args.c.now)) (rest c.words.c) m why
    (omega arith) on (rw (c.pass_gaps.ensures.rest, text) at bad)))

pub words-preserved : goal.words-preserved
words-preserved c =
    let (m, room, told) = c.words.invariant.told in
    let on = sym (rw (c.rest.ensures, c.pass_gaps.ensures.rest) at c.is_end.ensures) ∙ c.if-is_end.false in
    let text = c.pass_gaps.ensures.text ∙ c.words.invariant.text in
    let less = c.in_ok-word.ensures.shorter in
    let no_more = c.pass_gaps.ensures.within in
    let (n, one, step) = words_more c.words.opened c.words.words (length (text_of c.args.c.now)) (rest c.words.c) m _ _ _
    (omega arith) on (rw (c.pass_gaps.ensures.rest, text) at c.in_ok-word.ensures.value) in
    record {
      text = c.in_ok-word.ensures.text ∙ text;
      within = omega arith;
      told = (n, omega arith, told ∙ step ∙ rw c.in_ok-push.ensures.ok refl);
    }
