use Rattle.std.proofs.Common.{arith, ◌≡◌, ℕ, subst, sym, ◌∙◌}
use Rattle.std.specs.Prelude.{Some}
use Rattle.case_objects.specs.declared.values.CaseValue.{CaseValue}
use Rattle.case_objects.specs.declared.subjects.Subject.TheVariants.{Input}
use Rattle.case_objects.specs.Subjects.{AgreeOn}
use Rattle.case_objects.proofs.Holding.{one_more, of_all, holds}
use Rattle.case_objects.proofs.Meeting.{is_that_input, same_some}
use Rattle.case_objects.proofs.inputs.check_inputs.Goals.{in-Some+in_ok-check_subject, in_default}
use Rattle.case_objects.proofs.inputs.check_inputs.Goals as goal

pub loop-k-preserved : goal.loop-k-preserved
loop-k-preserved c =
    let P : CaseValue → Type 0 = λ (v : CaseValue). (i : ℕ) → v.input ≡ Some i → AgreeOn (Input i) c.args.values.now in
    one_more P c.args.values.now c.loop-k.k c.item.result.now c.item.ensures c.loop-k.invariant (λ i at. elim c.match-item.branch [
      | in-Some+in_ok-check_subject w ↦
          subst (λ (n : ℕ). AgreeOn (Input n) c.args.values.now) (same_some w.in-Some.input i (sym w.in-Some.is ∙ at)) w.in_ok-check_subject.ensures.ok
      | in_default w ↦ absurd (w.in_default.not-Some i at)
    ])

pub returns-clause-ok : goal.returns-clause-ok
returns-clause-ok c i a b has_a has_b about_a about_b =
    let P : CaseValue → Type 0 = λ (v : CaseValue). (i : ℕ) → v.input ≡ Some i → AgreeOn (Input i) c.args.values.now in
    let all = of_all P c.args.values.now c.loop-k.k (omega (arith, c.loop-k-test.false, c.len-k-end.ensures)) c.loop-k.invariant in
    holds P c.args.values.now a all has_a i (is_that_input i a.input about_a) a b has_a has_b about_a about_b
