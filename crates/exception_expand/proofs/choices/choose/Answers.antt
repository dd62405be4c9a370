use Rattle.std.proofs.Common.{arith, ◌∙◌, ◌<◌, ◌≤◌, ◌++◌, List, length, refl, ap}
use Rattle.selected_types.specs.declared.warnings.Warning.{Warning}
use Rattle.exception_expand.specs.Points.{IsFrom, IsTo}
use Rattle.exception_expand.specs.Asking.{asked_by}
use Rattle.exception_expand.specs.Selections.{exception_warnings}
use Rattle.exception_expand.proofs.Ranging.{starts_in, ends_in}
use Rattle.exception_expand.proofs.Choosing.{choice_exact, choice_more}
use Rattle.exception_expand.proofs.choices.choose.Goals as goal

pub connected-requires-clause-starts : goal.connected-requires-clause-starts
connected-requires-clause-starts c =
    let l = c.args.scope.now.linked.now in
    let e = (asked_by c.args.ask.now).exception in
    starts_in l (IsFrom l c.args.scope.now.script.now c.args.scope.now.strict e.edge e.from) c.in_ok-lists.lists.starts
    c.in_ok-lists.ensures.lists.starts

pub connected-requires-clause-ends : goal.connected-requires-clause-ends
connected-requires-clause-ends c =
    let l = c.args.scope.now.linked.now in
    let e = (asked_by c.args.ask.now).exception in
    ends_in l.design (IsTo l c.args.scope.now.script.now c.args.scope.now.strict e.to) c.in_ok-lists.lists.ends c.in_ok-lists.ensures.lists.ends

pub returns-then-len-most-clause-err : goal.returns-then-len-most-clause-err
returns-then-len-most-clause-err c =
    let more : c.args.most < length c.in_ok-pairs.pairs = omega (arith, c.if-len-most.true, c.len-2.ensures) in (
      refl,
      choice_more c.args.scope.now.linked.now c.args.scope.now.script.now c.args.scope.now.strict (asked_by c.args.ask.now).exception
          c.in_ok-lists.lists c.args.most c.in_ok-pairs.pairs c.in_ok-lists.ensures.lists c.in_ok-pairs.ensures.pairs more,
    )

pub returns-clause-ok : goal.returns-clause-ok
returns-clause-ok c =
    let l = c.args.scope.now.linked.now in
    let script = c.args.scope.now.script.now in
    let strict = c.args.scope.now.strict in
    let e = (asked_by c.args.ask.now).exception in
    let few : length c.in_ok-pairs.pairs ≤ c.args.most = omega (arith, c.if-len-most.false, c.len-2.ensures) in
    record {
      pairs = choice_exact l script strict e c.in_ok-lists.lists c.args.most c.in_ok-pairs.pairs c.in_ok-lists.ensures.lists c.in_ok-pairs.ensures.pairs few;
      few = few;
      sets = c.in_ok-lists.ensures.lists.sets;
      few_sets = omega (arith, c.if-len-gt-MOST_SETS.false, c.len.ensures);
      warnings = c.in_ok-lists.ensures.warnings ∙ ap (λ (w : List Warning). w ++ exception_warnings l script strict e) c.new-warnings.ensures;
    }
