use Rattle.std.proofs.Common.{◌∙◌, sym, arith}
use Rattle.std.proofs.lemmas.List.{at_drop_more, at_drop_all}
use Rattle.sdc_words.specs.Lines.{is_passed, original_from}
use Rattle.sdc_words.proofs.LineLemmas.{original_passed, original_here, original_later}
use Rattle.sdc_words.proofs.lines.original.Goals as goal

pub loop-i-preserved-then-is_passed : goal.loop-i-preserved-then-is_passed
loop-i-preserved-then-is_passed c =
    let s = c.args.text.now in
    let i = c.loop-i.i in
    let here = at_drop_more (original_from i c.loop-i.left) s i 0 c.loop-i-test.true in
    let passed = sym (at_drop_more is_passed s i 0 c.loop-i-test.true) ∙ sym (rw c.after.ensures at c.is_passed.ensures) ∙ c.if-is_passed.true in
    c.loop-i.invariant ∙ here ∙ original_passed _ _ i c.loop-i.left passed

pub returns-then-left-eq0-clause-value : goal.returns-then-left-eq0-clause-value
returns-then-left-eq0-clause-value c =
    let s = c.args.text.now in
    let i = c.loop-i.i in
    let here = at_drop_more (original_from i c.loop-i.left) s i 0 c.loop-i-test.true in
    let kept = sym (at_drop_more is_passed s i 0 c.loop-i-test.true) ∙ sym (rw c.after.ensures at c.is_passed.ensures) ∙ c.if-is_passed.false in
    sym (c.loop-i.invariant ∙ here ∙ original_here _ _ i c.loop-i.left kept c.if-left-eq0.true)

pub loop-i-preserved : goal.loop-i-preserved
loop-i-preserved c =
    let s = c.args.text.now in
    let i = c.loop-i.i in
    let here = at_drop_more (original_from i c.loop-i.left) s i 0 c.loop-i-test.true in
    let kept = sym (at_drop_more is_passed s i 0 c.loop-i-test.true) ∙ sym (rw c.after.ensures at c.is_passed.ensures) ∙ c.if-is_passed.false in
    c.loop-i.invariant ∙ here ∙ original_later _ _ i c.loop-i.left kept (omega arith)

pub returns-clause-value : goal.returns-clause-value
unfolding original_from
returns-clause-value c =
    sym (c.loop-i.invariant ∙ at_drop_all (original_from c.loop-i.i c.loop-i.left) c.args.text.now c.loop-i.i (omega arith) ∙ omega arith)
