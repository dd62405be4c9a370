use Rattle.std.proofs.Common.{◌∙◌, suc, length, ap, refl, arith}
use Rattle.std.proofs.lemmas.Result.{err_from_is_err_and}
use Rattle.sdcv_base.specs.Cursors.{rest, text_of}
use Rattle.lib_words.specs.Passes.{passed_at}
use Rattle.lib_words.proofs.ReadLemmas.{fails_through}
use Rattle.lib_words.proofs.PassLemmas.{passed_all, passed_more, passed_bad}
use Rattle.lib_words.proofs.passes.pass_statement.Goals as goal

pub returns-in_err-opened-clause-value : goal.returns-in_err-opened-clause-value
unfolding passed_at
returns-in_err-opened-clause-value c =
    let p = err_from_is_err_and c.from_residual.result c.from_residual.ensures.1 in
    rw (p.1, p.2) (fails_through _ _ refl c.in_err-opened.field-0.0 _ _ c.in_err-opened.ensures.value (λ why bad. rw bad refl))

pub steps-init : goal.steps-init
unfolding passed_at
steps-init c = record {
  text = c.in_ok-opened.ensures.text;
  within = c.in_ok-opened.ensures.shorter;
  told = (suc (length (rest c.pass_tail.new.c)), omega arith, rw c.in_ok-opened.ensures.value refl);
}

pub returns-in_err-opened-2-clause-value : goal.returns-in_err-opened-2-clause-value
returns-in_err-opened-2-clause-value c =
    let (m, room, told) = c.steps.invariant.told in
    let p = err_from_is_err_and c.from_residual-in_err-opened-2.result c.from_residual-in_err-opened-2.ensures.1 in
    rw (p.1, p.2) (fails_through _ _ (ap length c.steps.invariant.text) c.in_err-opened-2.field-0.0 _ _ c.in_err-opened-2.ensures.value
    (λ why bad. told ∙ passed_bad c.args.room m c.steps.opened (length (text_of c.args.c.now)) (rest c.steps.c) why
    (omega arith) c.steps-test.true (rw c.steps.invariant.text at bad)))

pub steps-preserved : goal.steps-preserved
steps-preserved c =
    let (m, room, told) = c.steps.invariant.told in
    let less = c.in_ok-opened-2.ensures.shorter in
    let (n, one, step) = passed_more c.args.room m c.steps.opened (length (text_of c.args.c.now)) (rest c.steps.c) _ _ (omega arith) c.steps-test.true
    (rw c.steps.invariant.text at c.in_ok-opened-2.ensures.value) in
    record {
      text = c.in_ok-opened-2.ensures.text ∙ c.steps.invariant.text;
      within = omega arith;
      told = (n, omega arith, told ∙ step);
    }

pub returns-clause-value : goal.returns-clause-value
returns-clause-value c =
    let (m, room, told) = c.steps.invariant.told in
    told ∙ passed_all c.args.room m c.steps.opened (length (text_of c.args.c.now)) (rest c.steps.c) (omega arith)
