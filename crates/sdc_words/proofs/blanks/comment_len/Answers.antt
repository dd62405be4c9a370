use Rattle.std.proofs.Common.{◌∙◌, refl, sym, arith}
use Rattle.std.proofs.lemmas.List.{at_drop_more, at_drop_all}
use Rattle.sdc_words.specs.Blanks.{comment_from}
use Rattle.sdc_words.proofs.BlankLemmas.{comment_ends, comment_more}
use Rattle.sdc_words.proofs.blanks.comment_len.Goals as goal

pub returns-then-ends_line-clause-value : goal.returns-then-ends_line-clause-value
returns-then-ends_line-clause-value c =
    let s = c.args.text.now in
    let i = c.loop-i.i in
    let here = at_drop_more (comment_from i c.loop-i.is_taken) s i 0 c.loop-i-test.true in
    sym (c.loop-i.invariant ∙ here ∙ comment_ends i c.loop-i.is_taken _ _ (sym c.ends_line.ensures ∙ c.if-ends_line.true))

pub loop-i-preserved : goal.loop-i-preserved
loop-i-preserved c =
    let s = c.args.text.now in
    let i = c.loop-i.i in
    let here = at_drop_more (comment_from i c.loop-i.is_taken) s i 0 c.loop-i-test.true in
    let more = comment_more i c.loop-i.is_taken _ _ (sym c.ends_line.ensures ∙ c.if-ends_line.false) in
    c.loop-i.invariant ∙ here ∙ more ∙ rw c.takes_next-is_taken.ensures refl

pub returns-clause-value : goal.returns-clause-value
unfolding comment_from
returns-clause-value c =
    sym (c.loop-i.invariant ∙ at_drop_all (comment_from c.loop-i.i c.loop-i.is_taken) c.args.text.now c.loop-i.i (omega arith) ∙ omega arith)
