use Rattle.std.proofs.Common.{arith, ◌≡◌, ◌∙◌, ◌≤◌, false, sym}
use Rattle.std.specs.Prelude.{nat_lt, count_by}
use Rattle.std.proofs.lemmas.Bool.Decides.{nat_tests}
use Rattle.exception_expand.specs.Pairs.{is_judged}
use Rattle.exception_expand.proofs.Stepping.{selection_of}
use Rattle.exception_expand.proofs.scripts.expand.Goals as goal

pub returns-clause-ok : goal.returns-clause-ok
returns-clause-ok c =
    let l = c.args.linked.now in
    let s = c.in_ok-selected.selected in
    let below : nat_lt 10000 (count_by (is_judged l.design) s.claims) ≡ false = sym c.has_many_judged.ensures ∙ c.if-has_many_judged.false in
    let few : count_by (is_judged l.design) s.claims ≤ 10000 = grind (arith, nat_tests) in
    selection_of l c.args.script.now c.args.judging s c.requires.linked c.requires.judging.lag c.requires.script
    c.in_ok-selected.ensures.ok few
