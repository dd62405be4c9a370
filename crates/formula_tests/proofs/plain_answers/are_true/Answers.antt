use Rattle.std.proofs.Common.{◌≡◌, ◌∙◌, true, ℕ, List, [], refl, sym, subst, arith}
use Rattle.std.specs.List.{All}
use Rattle.std.proofs.lemmas.List.{take_all}
use Rattle.std.proofs.lemmas.List.Elements.{All-more}
use Rattle.proof_log.specs.Clauses.{clause_true}
use Rattle.proof_log.specs.Formulas.{value_in}
use Rattle.formula_tests.proofs.plain_answers.are_true.Goals as goal

pub loop-place-preserved : goal.loop-place-preserved
loop-place-preserved c =
    let P : List ℕ → Type 0 = λ x. clause_true (value_in c.args.model.now.values) x ≡ true in
    All-more P c.args.formula.now.clauses c.loop-place.place [] (omega (arith, c.loop-place-test.true, c.len-place-end.ensures.value)) c.loop-place.invariant
    (subst P c.clause.ensures (sym c.is_true.ensures ∙ c.if-not-is_true.false))

pub returns : goal.returns
returns c =
    let Q : List (List ℕ) → Type 0 = All (λ x. clause_true (value_in c.args.model.now.values) x ≡ true) in
    let whole = take_all c.loop-place.place c.args.formula.now.clauses (omega (arith, c.loop-place-test.false, c.len-place-end.ensures.value)) in
    (λ t. subst Q whole c.loop-place.invariant, λ w. refl)
