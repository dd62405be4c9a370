use Rattle.std.proofs.Common.{◌<◌, length, drop, sym, ◌∙◌, arith, length-drop}
use Rattle.std.proofs.lemmas.List.{drop-drop}
use Rattle.texts.proofs.FrontLemmas.{closed_here, closed_later, closed_none}
use Rattle.texts.proofs.fronts.closed_by.Goals as goal

pub returns-then-has_two-clause-value : goal.returns-then-has_two-clause-value
returns-then-has_two-clause-value c =
    let s = drop c.loop-i.i c.args.text.now in
    let some : 0 < length s = omega (arith, length-drop c.loop-i.i c.args.text.now) in
    sym (c.loop-i.invariant ∙ closed_here c.args.a c.args.b c.loop-i.i s some (sym (rw c.after.ensures at c.has_two.ensures) ∙ c.if-has_two.true))

pub loop-i-preserved : goal.loop-i-preserved
loop-i-preserved c =
    let s = drop c.loop-i.i c.args.text.now in
    let some : 0 < length s = omega (arith, length-drop c.loop-i.i c.args.text.now) in
    c.loop-i.invariant ∙ closed_later c.args.a c.args.b c.loop-i.i s some (sym (rw c.after.ensures at c.has_two.ensures) ∙ c.if-has_two.false) ∙ rw drop-drop

pub returns-clause-value : goal.returns-clause-value
returns-clause-value c =
    sym (c.loop-i.invariant ∙ closed_none c.args.a c.args.b c.loop-i.i (drop c.loop-i.i c.args.text.now)
    (omega (arith, length-drop c.loop-i.i c.args.text.now)))
