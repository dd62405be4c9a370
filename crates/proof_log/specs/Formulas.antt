-- Formulas and their models.
use Rattle.std.specs.Prelude.{◌≡◌, ℕ, ◌-◌, ◌^◌, ◌<◌, Bool, true, false, List, length, All, slice_index_or}
use Rattle.proof_log.specs.Literals.{InVars}
use Rattle.proof_log.specs.Clauses.{clause_true, IsNormal}
use Rattle.proof_log.specs.declared.formulas.Formula.{Formula}
use Rattle.proof_log.specs.declared.models.Model.{Model}

-- each clause is in normal form, over the variables 1 to vars
pub record IsFormula (formula : Formula) : Type 0 where
  pub few : formula.vars < 2 ^ 31
  pub normal : All IsNormal formula.clauses
  pub in_vars : All (λ c. All (InVars formula.vars) c) formula.clauses

-- variable v has the value at the place v - 1
abbrev pub value_in : List Bool → ℕ → Bool
value_in values var = slice_index_or values (var - 1) false

-- each variable has a value, and each clause is true
abbrev pub IsModel : Formula → Model → Type 0
IsModel formula model =
    (length model.values ≡ formula.vars) × All (λ c. clause_true (value_in model.values) c ≡ true) formula.clauses

-- no values of the variables make each clause true
abbrev pub HasNoModel : Formula → Type 0
HasNoModel formula = (v : ℕ → Bool) → All (λ c. clause_true v c ≡ true) formula.clauses → ⊥
