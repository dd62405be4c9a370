use Rattle.std.proofs.Common.{◌≡◌, ◌==◌, true, false, length, drop, sym, ap, ◌∙◌, arith, length-drop}
use Rattle.std.proofs.lemmas.Bool.Decides.{nat_tests}
use Rattle.sdcv_base.specs.Cursors.{rest}
use Rattle.texts.specs.Fronts.{first}
use Rattle.lib_words.specs.Blanks.{after_space}
use Rattle.lib_func.proofs.MarkLemmas.{marks_stop, marks_more, marks_all}
use Rattle.lib_func.proofs.marks.count_marks.Goals as goal

pub returns-then-skip_blanks-mark-clause-value : goal.returns-then-skip_blanks-mark-clause-value
returns-then-skip_blanks-mark-clause-value c =
    let s = rest c.loop-count.c in
    let there : c.skip_blanks.result ≡ first (after_space s) = c.skip_blanks.ensures.first ∙ ap first c.skip_blanks.ensures.rest in
    let other : (first (after_space s) == c.args.mark) ≡ false = grind (arith, nat_tests) in
    let most = ap length c.rest-most.ensures in
    rw (← most) (sym (c.loop-count.invariant.told ∙ marks_stop c.args.mark c.loop-count.count _ s other))

pub loop-count-preserved : goal.loop-count-preserved
loop-count-preserved c =
    let s = rest c.loop-count.c in
    let there : c.skip_blanks.result ≡ first (after_space s) = c.skip_blanks.ensures.first ∙ ap first c.skip_blanks.ensures.rest in
    let same : (first (after_space s) == c.args.mark) ≡ true = grind (arith, nat_tests) in
    let next : rest c.bump.new.self ≡ drop 1 (after_space s) = c.bump.ensures.rest ∙ ap (drop 1) c.skip_blanks.ensures.rest in
    let len = ap length c.bump.ensures.rest in
    let less = length-drop 1 (rest c.skip_blanks.new.c) in
    let within = c.skip_blanks.ensures.within in
    record {
      within = omega arith;
      told = c.loop-count.invariant.told ∙ marks_more c.args.mark c.loop-count.count _ s same c.loop-count-test.true ∙ rw next;
    }

pub returns-clause-value : goal.returns-clause-value
returns-clause-value c =
    let most = ap length c.rest-most.ensures in
    rw (← most) (sym (c.loop-count.invariant.told ∙ marks_all c.args.mark c.loop-count.count _ (rest c.loop-count.c) c.loop-count-test.false
    c.loop-count.auto.count-end))
