use Rattle.std.proofs.Common.{◌∙◌, List, ap, sym, arith, drop, Ok}
use Rattle.std.proofs.lemmas.Result.{err_from_is_err_and}
use Rattle.std.proofs.lemmas.List.{at_drop_all, drop-drop}
use Rattle.sdc_words.specs.declared.words.Word.{Word}
use Rattle.sdc_values.specs.Gets.{asks, ends, get_from}
use Rattle.sdc_values.proofs.GetLemmas.{asks_none, get_end, get_end_bad, get_more, get_bad}
use Rattle.sdc_values.proofs.gets.get.Goals as goal

pub returns-in_err-asked-clause-value : goal.returns-in_err-asked-clause-value
returns-in_err-asked-clause-value c =
    let (m, room, told) = c.loop-place.invariant in
    let scene = c.args.scene.now in
    let here = sym (rw c.words_after-rest.ensures at c.ends.ensures.value) ∙ c.if-ends.true in
    let p = err_from_is_err_and c.from_residual.result c.from_residual.ensures.1 in
    rw (p.1, p.2) (λ other. told ∙ get_end_bad scene.nesting scene.vars.now scene.line scene.place c.args.own.now c.args.class c.loop-place.asking
    (drop c.loop-place.place c.args.words.now) m _ (omega arith) here (c.in_err-asked.ensures other))

pub returns-then-ends-clause-value : goal.returns-then-ends-clause-value
returns-then-ends-clause-value c =
    let (m, room, told) = c.loop-place.invariant in
    let scene = c.args.scene.now in
    let ws = c.args.words.now in
    let here = sym (rw c.words_after-rest.ensures at c.ends.ensures.value) ∙ c.if-ends.true in
    told ∙ get_end scene.nesting scene.vars.now scene.line scene.place c.args.own.now c.args.class c.loop-place.asking
    (drop c.loop-place.place ws) m _ (omega arith) here c.in_ok-asked.ensures ∙ ap (λ (t : List Word). Ok (c.in_ok-asked.field-0, t))
    (drop-drop 1 c.loop-place.place ws)

pub returns-in_err-ask-clause-value : goal.returns-in_err-ask-clause-value
returns-in_err-ask-clause-value c =
    let (m, room, told) = c.loop-place.invariant in
    let scene = c.args.scene.now in
    let on = sym (rw c.words_after-rest.ensures at c.ends.ensures.value) ∙ c.if-ends.false in
    let p = err_from_is_err_and c.from_residual-in_err-ask.result c.from_residual-in_err-ask.ensures.1 in
    rw (p.1, p.2) (λ other. told ∙ get_bad scene.nesting scene.vars.now scene.line scene.place c.args.own.now c.args.class c.loop-place.asking
    (drop c.loop-place.place c.args.words.now) m _ (omega arith) on (rw c.words_after-rest.ensures at (c.in_err-ask.ensures.value other)))

pub loop-place-preserved : goal.loop-place-preserved
loop-place-preserved c =
    let (m, room, told) = c.loop-place.invariant in
    let scene = c.args.scene.now in
    let ws = c.args.words.now in
    let on = sym (rw c.words_after-rest.ensures at c.ends.ensures.value) ∙ c.if-ends.false in
    let (n, one, step) = get_more scene.nesting scene.vars.now scene.line scene.place c.args.own.now c.args.class c.loop-place.asking
    (drop c.loop-place.place ws) m _ (omega arith) on (rw c.words_after-rest.ensures at c.in_ok-ask.ensures.value) in (
      n,
      omega arith,
      told ∙ step ∙ ap (get_from n scene.nesting scene.vars.now scene.line scene.place c.args.own.now c.args.class c.ask.new.asking)
          (drop-drop 1 c.loop-place.place ws),
    )

pub returns-clause-value : goal.returns-clause-value
returns-clause-value c =
    let (m, room, told) = c.loop-place.invariant in
    let scene = c.args.scene.now in
    let ws = c.args.words.now in
    let asking = c.loop-place.asking in
    let on = at_drop_all (ends asking) ws c.loop-place.place (omega arith) in
    let none = at_drop_all (asks scene.nesting scene.vars.now scene.line scene.place c.args.own.now asking) ws c.loop-place.place (omega arith) in
    λ other. told ∙ get_bad scene.nesting scene.vars.now scene.line scene.place c.args.own.now c.args.class asking (drop c.loop-place.place ws) m _
    (omega arith) on (none ∙ asks_none scene.nesting scene.vars.now scene.line scene.place c.args.own.now asking)
