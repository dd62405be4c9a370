use Rattle.std.proofs.Common.{◌≡◌, ◌<◌, ◌+◌, length, drop, sym, ◌∙◌, arith, length-drop, None, Some}
use Rattle.std.proofs.lemmas.List.{drop-drop}
use Rattle.texts.specs.Rules.{most_nested}
use Rattle.lib_func.specs.Scans.{turned}
use Rattle.lib_func.proofs.Scanning.{scan_goes, scan_fails, scan_ended, none_left}
use Rattle.lib_func.proofs.Telling.{function_tells}
use Rattle.lib_func.proofs.scans.is_function.Goals as goal

pub returns-in_default : goal.returns-in_default
returns-in_default c =
    let text = c.args.text.now in
    let s = drop c.loop-i.i text in
    let some : 0 < length s = omega (arith, length-drop c.loop-i.i text) in
    let none : turned c.loop-i.spot s ≡ None = rw c.after.ensures at (sym c.turned.ensures.value ∙ none_left c.turned.result c.in_default.not-Some) in
    sym (function_tells (length text + most_nested) text (omega arith) ∙ c.loop-i.invariant.told ∙ scan_fails c.loop-i.spot s some none)

pub loop-i-preserved : goal.loop-i-preserved
loop-i-preserved c =
    let text = c.args.text.now in
    let s = drop c.loop-i.i text in
    let some : 0 < length s = omega (arith, length-drop c.loop-i.i text) in
    let next : turned c.loop-i.spot s ≡ Some c.in-Some.next = rw c.after.ensures at (sym c.in-Some.ensures.value) in
    let more = c.in-Some.ensures.opened in
    record {
      few = omega arith;
      told = c.loop-i.invariant.told ∙ scan_goes c.loop-i.spot c.in-Some.next s some next ∙ rw drop-drop;
    }

pub returns : goal.returns
returns c =
    let text = c.args.text.now in
    let past : length (drop c.loop-i.i text) ≡ 0 = omega (arith, length-drop c.loop-i.i text) in
    c.is_end.ensures ∙ sym (function_tells (length text + most_nested) text (omega arith) ∙ c.loop-i.invariant.told
    ∙ scan_ended c.loop-i.spot (drop c.loop-i.i text) past)
