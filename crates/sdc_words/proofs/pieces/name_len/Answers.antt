use Rattle.std.proofs.Common.{◌∙◌, sym, arith}
use Rattle.std.proofs.lemmas.List.{at_drop_more, at_drop_all}
use Rattle.sdc_words.specs.Pieces.{is_over, name_from}
use Rattle.sdc_words.proofs.PieceLemmas.{name_over, name_ends, name_more}
use Rattle.sdc_words.proofs.pieces.name_len.Goals as goal

pub returns-then-is_over-clause-value : goal.returns-then-is_over-clause-value
returns-then-is_over-clause-value c =
    let s = c.args.text.now in
    let w = c.args.within in
    let i = c.loop-i.i in
    let here = at_drop_more (name_from w i c.loop-i.is_slashed) s i 0 c.loop-i-test.true in
    let front = at_drop_more (is_over w c.loop-i.is_slashed) s i 0 c.loop-i-test.true in
    let over = sym front ∙ sym (rw c.after.ensures at c.is_over.ensures) ∙ c.if-is_over.true in
    sym (c.loop-i.invariant ∙ here ∙ name_over w i c.loop-i.is_slashed _ _ over)

pub returns-then-text-i-eq125-clause-value : goal.returns-then-text-i-eq125-clause-value
returns-then-text-i-eq125-clause-value c =
    let s = c.args.text.now in
    let w = c.args.within in
    let i = c.loop-i.i in
    let here = at_drop_more (name_from w i c.loop-i.is_slashed) s i 0 c.loop-i-test.true in
    let front = at_drop_more (is_over w c.loop-i.is_slashed) s i 0 c.loop-i-test.true in
    let within = sym front ∙ sym (rw c.after.ensures at c.is_over.ensures) ∙ c.if-is_over.false in
    sym (c.loop-i.invariant ∙ here ∙ name_ends w i c.loop-i.is_slashed _ _ within c.if-text-i-eq125.true)

pub loop-i-preserved : goal.loop-i-preserved
loop-i-preserved c =
    let s = c.args.text.now in
    let w = c.args.within in
    let i = c.loop-i.i in
    let here = at_drop_more (name_from w i c.loop-i.is_slashed) s i 0 c.loop-i-test.true in
    let front = at_drop_more (is_over w c.loop-i.is_slashed) s i 0 c.loop-i-test.true in
    let within = sym front ∙ sym (rw c.after.ensures at c.is_over.ensures) ∙ c.if-is_over.false in
    c.loop-i.invariant ∙ here ∙ name_more w i c.loop-i.is_slashed _ _ within c.if-text-i-eq125.false

pub returns-clause-value : goal.returns-clause-value
unfolding name_from
returns-clause-value c =
    sym (c.loop-i.invariant ∙ at_drop_all (name_from c.args.within c.loop-i.i c.loop-i.is_slashed) c.args.text.now c.loop-i.i (omega arith))
