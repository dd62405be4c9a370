use Rattle.std.proofs.Common.{◌∙◌, ap, arith, drop}
use Rattle.std.proofs.lemmas.Result.{err_from_is_err_and}
use Rattle.std.proofs.lemmas.List.{drop-drop, length-drop}
use Rattle.sdc_values.specs.Nested.{lists_from}
use Rattle.sdc_values.proofs.NestedLemmas.{lists_end, lists_more, lists_bad}
use Rattle.sdc_values.proofs.nested.close_all.Goals as goal

pub returns-in_err-place-clause-value : goal.returns-in_err-place-clause-value
returns-in_err-place-clause-value c =
    let (m, room, told) = c.words.invariant.told in
    let scene = c.args.scene.now in
    let p = err_from_is_err_and c.from_residual.result c.from_residual.ensures.1 in
    rw (p.1, p.2) (λ other. told ∙ lists_bad scene.nesting scene.vars.now scene.line scene.place c.words.joined (drop c.words.place c.args.words.now) m _
    (omega arith) c.words-test.true (rw c.words_after.ensures at (c.in_err-place.ensures.value other)))

pub words-preserved : goal.words-preserved
words-preserved c =
    let (m, room, told) = c.words.invariant.told in
    let scene = c.args.scene.now in
    let ws = c.args.words.now in
    let taken = c.in_ok-place.field-0 in
    let left = length-drop c.words.place ws in
    let some = c.in_ok-place.ensures.some in
    let few = c.in_ok-place.ensures.few in
    let before = c.words.invariant.few in
    let within = rw c.words_after.ensures at c.in_ok-place.ensures.within in
    let (n, one, step) = lists_more scene.nesting scene.vars.now scene.line scene.place c.words.joined (drop c.words.place ws) m _ _
    (omega arith) c.words-test.true (rw c.words_after.ensures at c.in_ok-place.ensures.value) in
    record {
      within = omega arith;
      few = omega arith;
      told = (n, omega arith, told ∙ step ∙ ap (lists_from n scene.nesting scene.vars.now scene.line scene.place c.step.new.joined) (drop-drop taken c.words.place ws));
    }

pub returns-clause-value : goal.returns-clause-value
returns-clause-value c =
    let (m, room, told) = c.words.invariant.told in
    let scene = c.args.scene.now in
    told ∙ lists_end scene.nesting scene.vars.now scene.line scene.place c.words.joined (drop c.words.place c.args.words.now) m (omega arith) (omega arith)
