-- Values of variables that make each clause true are a model of the formula.
use Rattle.std.proofs.Common.{◌≡◌, ℕ, zero, suc, ◌+◌, ◌-◌, ◌/◌, ◌%◌, ◌<◌, ◌≤◌, Bool, true, false, not, cond, List, [], ◌∷◌, length, Some, refl, subst}
use Rattle.std.proofs.Common.{ap, sym, ◌∙◌, arith}
use Rattle.std.specs.Prelude.{All, slice_get, slice_index_or, ◌||◌, ◌==◌}
use Rattle.std.specs.List.{list_any}
use Rattle.proof_log.specs.Literals.{lit_true, InVars}
use Rattle.proof_log.specs.Clauses.{clause_true}
use Rattle.proof_log.specs.Formulas.{IsFormula, IsModel, value_in}
use Rattle.proof_log.specs.declared.formulas.Formula.{Formula}
use Rattle.proof_log.specs.declared.models.Model.{Model}
use Rattle.query_model.specs.Variables.{code_true, AllCodesTrue}
use Rattle.std.proofs.lemmas.List.Elements.{All-head, All-tail}
use Rattle.net_model.proofs.Driving.{all_from_places}

-- the values of the variables from this one on
abbrev values_from : (ℕ → Bool) → ℕ → ℕ → List Bool
values_from v var zero = []
values_from v var (suc n) = v var ∷ values_from v (var + 1) n

length-values_from : (v : ℕ → Bool) (var n : ℕ) → length (values_from v var n) ≡ n
length-values_from v var zero = refl
length-values_from v var (suc n) = ap suc (length-values_from v (var + 1) n)

value_at : (v : ℕ → Bool) (var n i : ℕ) → i < n → slice_index_or (values_from v var n) i false ≡ v (var + i)
value_at v var zero i lt = absurd (omega arith)
value_at v var (suc n) zero lt = let e : var ≡ var + 0 = omega arith in ap v e
value_at v var (suc n) (suc i) lt = let e : var + 1 + i ≡ var + suc i = omega arith in value_at v (var + 1) n i (omega arith) ∙ ap v e

-- the list gives each variable its value
listed_value : (v : ℕ → Bool) (vars var : ℕ) → 1 ≤ var → var ≤ vars → value_in (values_from v 1 vars) var ≡ v var
listed_value v vars var from to = let e : 1 + (var - 1) ≡ var = omega arith in value_at v 1 vars (var - 1) (omega arith) ∙ ap v e

lit_listed : (v : ℕ → Bool) (vars l : ℕ) → InVars vars l → code_true v l ≡ lit_true (value_in (values_from v 1 vars)) l
unfolding code_true lit_true
lit_listed v vars l within =
    let from : 1 ≤ l / 2 = omega (arith, within.0) in
    let to : l / 2 ≤ vars = omega (arith, within.1) in
    ap (λ (b : Bool). cond (l % 2 == 0) b (not b)) (sym (listed_value v vars (l / 2) from to))

clause_listed : (v : ℕ → Bool) (vars : ℕ) (clause : List ℕ) → All (InVars vars) clause → list_any (code_true v) clause ≡ clause_true
    (value_in (values_from v 1 vars)) clause
clause_listed v vars [] within = refl
clause_listed v vars (l ∷ ls) within =
    ap (λ (b : Bool). b || list_any (code_true v) ls) (lit_listed v vars l (All-head (InVars vars) l ls within))
    ∙ ap (λ (b : Bool). lit_true (value_in (values_from v 1 vars)) l || b) (clause_listed v vars ls (All-tail (InVars vars) l ls within))

clauses_listed : (v : ℕ → Bool) (vars : ℕ) (clauses : List (List ℕ)) → All (λ c. All (InVars vars) c) clauses → AllCodesTrue v clauses → (k : ℕ)
    → k < length clauses → (c : List ℕ) → slice_get clauses k ≡ Some c → clause_true (value_in (values_from v 1 vars)) c ≡ true
clauses_listed v vars [] within all k lt c at = absurd (omega arith)
clauses_listed v vars (d ∷ ds) within all zero lt c at =
    let is : d ≡ c = cc in
    subst (λ x. clause_true (value_in (values_from v 1 vars)) x ≡ true) is
    (sym (clause_listed v vars d (All-head (λ x. All (InVars vars) x) d ds within)) ∙ all.0)
clauses_listed v vars (d ∷ ds) within all (suc k) lt c at = clauses_listed v vars ds (All-tail (λ x. All (InVars vars) x) d ds within) all.1 k
    (omega (arith, lt)) c at

-- so they are a model, which has these values
pub model_listed : (formula : Formula) (v : ℕ → Bool) → IsFormula formula → AllCodesTrue v formula.clauses
    → (m : Model) × IsModel formula m × ((var : ℕ) → 1 ≤ var → var ≤ formula.vars → value_in m.values var ≡ v var)
model_listed formula v normal all =
    let holds = λ (c : List ℕ). clause_true (value_in (values_from v 1 formula.vars)) c ≡ true in (
      record { values = values_from v 1 formula.vars },
      (length-values_from v 1 formula.vars, all_from_places holds formula.clauses (clauses_listed v formula.vars formula.clauses normal.in_vars all)),
      λ var from to. listed_value v formula.vars var from to,
    )
