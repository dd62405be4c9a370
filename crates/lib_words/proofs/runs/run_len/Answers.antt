use Rattle.std.proofs.Common.{◌≡◌, ◌<◌, length, drop, sym, ◌∙◌, arith, length-drop}
use Rattle.std.proofs.lemmas.List.{drop-drop}
use Rattle.lib_words.proofs.RunLemmas.{run_stop, run_more, run_ended}
use Rattle.lib_words.proofs.runs.run_len.Goals as goal

pub returns-then-ends_run-clause-value : goal.returns-then-ends_run-clause-value
returns-then-ends_run-clause-value c =
    let s = drop c.loop-i.i c.args.text.now in
    let some : 0 < length s = omega (arith, length-drop c.loop-i.i c.args.text.now) in
    sym (c.loop-i.invariant ∙ run_stop c.loop-i.i s some (sym (rw c.after.ensures at c.ends_run.ensures) ∙ c.if-ends_run.true))

pub loop-i-preserved : goal.loop-i-preserved
loop-i-preserved c =
    let s = drop c.loop-i.i c.args.text.now in
    let some : 0 < length s = omega (arith, length-drop c.loop-i.i c.args.text.now) in
    c.loop-i.invariant ∙ run_more c.loop-i.i s some (sym (rw c.after.ensures at c.ends_run.ensures) ∙ c.if-ends_run.false) ∙ rw drop-drop

pub returns-clause-value : goal.returns-clause-value
returns-clause-value c =
    let past : length (drop c.loop-i.i c.args.text.now) ≡ 0 = omega (arith, length-drop c.loop-i.i c.args.text.now) in
    let here : c.loop-i.i ≡ length c.args.text.now = omega arith in
    sym (c.loop-i.invariant ∙ run_ended c.loop-i.i (drop c.loop-i.i c.args.text.now) past ∙ here)
