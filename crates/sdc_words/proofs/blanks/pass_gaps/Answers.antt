use Rattle.std.proofs.Common.{ap, refl, length, sym, ◌∙◌, arith, length-drop}
use Rattle.sdcv_base.specs.Cursors.{rest}
use Rattle.sdc_words.specs.Blanks.{after_gaps, gap_len}
use Rattle.sdc_words.proofs.BlankLemmas.{skipped_stop, skipped_more}
use Rattle.sdc_words.proofs.blanks.pass_gaps.Goals as goal

pub gaps-init : goal.gaps-init
unfolding after_gaps
gaps-init c = record { text = refl; within = omega arith; told = (length (rest c.args.c.now), omega arith, refl) }

pub returns-then-len-eq0-clause-rest : goal.returns-then-len-eq0-clause-rest
returns-then-len-eq0-clause-rest c =
    let (m, room, told) = c.gaps.invariant.told in
    sym (told ∙ skipped_stop gap_len m _ (rw c.rest.ensures at (sym c.gap_len-len.ensures.value) ∙ c.if-len-eq0.true))

pub gaps-preserved : goal.gaps-preserved
gaps-preserved c =
    let (m, room, told) = c.gaps.invariant.told in
    let n = c.gap_len-len.result in
    let same_len = ap length c.rest.ensures in
    let left = length-drop n (rest c.gaps.c) in
    let (k, one, step) = skipped_more gap_len m n _ (sym (rw c.rest.ensures at c.gap_len-len.ensures.value)) (omega arith) (omega arith) in
    record {
      text = c.skip.ensures.text ∙ c.gaps.invariant.text;
      within = rw c.skip.ensures.rest (omega (arith, left));
      told = (k, rw c.skip.ensures.rest (omega (arith, left)), told ∙ step ∙ rw c.skip.ensures.rest);
    }
