use Rattle.std.proofs.Common.{ap, refl, length, sym, ◌∙◌, arith, length-drop}
use Rattle.sdcv_base.specs.Cursors.{rest}
use Rattle.sdc_words.specs.Blanks.{after_blanks, blank_len}
use Rattle.sdc_words.proofs.BlankLemmas.{skipped_stop, skipped_more}
use Rattle.sdc_words.proofs.blanks.pass_blanks.Goals as goal

pub blanks-init : goal.blanks-init
unfolding after_blanks
blanks-init c = record { text = refl; within = omega arith; told = (length (rest c.args.c.now), omega arith, refl) }

pub returns-then-len-eq0-clause-rest : goal.returns-then-len-eq0-clause-rest
returns-then-len-eq0-clause-rest c =
    let (m, room, told) = c.blanks.invariant.told in
    sym (told ∙ skipped_stop blank_len m _ (rw c.rest.ensures at (sym c.blank_len-len.ensures.value) ∙ c.if-len-eq0.true))

pub blanks-preserved : goal.blanks-preserved
blanks-preserved c =
    let (m, room, told) = c.blanks.invariant.told in
    let n = c.blank_len-len.result in
    let same_len = ap length c.rest.ensures in
    let left = length-drop n (rest c.blanks.c) in
    let (k, one, step) = skipped_more blank_len m n _ (sym (rw c.rest.ensures at c.blank_len-len.ensures.value)) (omega arith) (omega arith) in
    record {
      text = c.skip.ensures.text ∙ c.blanks.invariant.text;
      within = rw c.skip.ensures.rest (omega (arith, left));
      told = (k, rw c.skip.ensures.rest (omega (arith, left)), told ∙ step ∙ rw c.skip.ensures.rest);
    }
