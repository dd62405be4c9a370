use Rattle.std.proofs.Common.{◌∙◌, sym, arith, length-drop}
use Rattle.std.proofs.lemmas.List.{at_drop_more}
use Rattle.sdc_words.specs.Braces.{matched_from}
use Rattle.sdc_words.proofs.BraceLemmas.{matched_ends, matched_deep, matched_more, matched_none}
use Rattle.sdc_words.proofs.braces.matched.Goals as goal

pub returns-in-Closes-clause-value : goal.returns-in-Closes-clause-value
returns-in-Closes-clause-value c =
    let here = at_drop_more (matched_from c.args.opened c.loop-i.i c.loop-i.is_escaped c.loop-i.opened) c.args.text.now c.loop-i.i 0 c.loop-i-test.true in
    sym (c.loop-i.invariant ∙ here ∙ matched_ends c.args.opened c.loop-i.i c.loop-i.is_escaped c.loop-i.opened _ _ (sym c.in-Closes.ensures))

pub returns-in-IsDeep-clause-value : goal.returns-in-IsDeep-clause-value
returns-in-IsDeep-clause-value c =
    let here = at_drop_more (matched_from c.args.opened c.loop-i.i c.loop-i.is_escaped c.loop-i.opened) c.args.text.now c.loop-i.i 0 c.loop-i-test.true in
    sym (c.loop-i.invariant ∙ here ∙ matched_deep c.args.opened c.loop-i.i c.loop-i.is_escaped c.loop-i.opened _ _ (sym c.in-IsDeep.ensures))

pub loop-i-preserved : goal.loop-i-preserved
loop-i-preserved c =
    let here = at_drop_more (matched_from c.args.opened c.loop-i.i c.loop-i.is_escaped c.loop-i.opened) c.args.text.now c.loop-i.i 0 c.loop-i-test.true in
    c.loop-i.invariant ∙ here ∙ matched_more c.args.opened c.loop-i.i c.loop-i.is_escaped c.loop-i.opened _ _ _ _ (sym c.in-GoesOn.ensures)

pub returns-clause-value : goal.returns-clause-value
returns-clause-value c = sym (c.loop-i.invariant
    ∙ matched_none c.args.opened c.loop-i.i c.loop-i.is_escaped c.loop-i.opened _ (omega (arith, length-drop c.loop-i.i c.args.text.now)))
