use Rattle.std.proofs.Common.{ℕ, List, [], refl, subst, arith}
use Rattle.std.specs.List.{All}
use Rattle.std.proofs.lemmas.List.{take_all}
use Rattle.std.proofs.lemmas.List.Elements.{All-more}
use Rattle.proof_log.specs.Literals.{InVars}
use Rattle.proof_log.specs.Clauses.{IsNormal}
use Rattle.proof_log.proofs.formulas.are_normal.Goals as goal

pub loop-place-preserved : goal.loop-place-preserved
loop-place-preserved c =
    let N : List ℕ → Type 0 = IsNormal in
    let V : List ℕ → Type 0 = All (InVars c.args.vars) in
    let here = c.is_ascending.ensures.0 c.if-not-is_ascending.false in
    record {
      normal = All-more N c.args.clauses.now c.loop-place.place [] (omega arith) c.loop-place.invariant.normal (subst N c.clause.ensures here.0);
      in_vars = All-more V c.args.clauses.now c.loop-place.place [] (omega arith) c.loop-place.invariant.in_vars (subst V c.clause.ensures here.1);
    }

pub returns : goal.returns
returns c =
    let N : List (List ℕ) → Type 0 = All IsNormal in
    let V : List (List ℕ) → Type 0 = All (λ x. All (InVars c.args.vars) x) in
    let whole = take_all c.loop-place.place c.args.clauses.now (omega (arith, c.loop-place-test.false, c.len-place-end.ensures.value)) in
    (λ t. (subst N whole c.loop-place.invariant.normal, subst V whole c.loop-place.invariant.in_vars), λ w. refl)
