-- Derivations and logs over the formula of a query.
use Rattle.std.specs.Prelude.{◌≡◌, ℕ, List, length, slice_get, Some}
use Rattle.net_model.specs.Queries.{Query}
use Rattle.query_model.specs.Variables.{IsProblemOf}
use Rattle.query_model.specs.declared.keys.Key.{Key}
use Rattle.query_model.specs.declared.keys.Coding.{Coding}
use Rattle.query_model.specs.declared.keys.Coding.TheVariants.{Primes}
use Rattle.proof_log.specs.Derivations.{Refutes}
use Rattle.proof_log.specs.NewClauses.{IsSpentLog}
use Rattle.proof_log.specs.declared.formulas.Formula.{Formula}
use Rattle.proof_log.specs.declared.derivations.Derivation.{Derivation}

-- the coding of the formulas that are asked here
abbrev pub own_coding : Coding
own_coding = Primes

-- the formula is the query's in a coding, over its needed keys
abbrev pub IsFormulaFor : Coding → Query → Formula → Type 0
IsFormulaFor coding q formula = (keys : List Key) × IsProblemOf coding q keys formula.vars formula.clauses

-- the derivation refutes the query's formula
abbrev pub RefutesQuery : Coding → Query → Derivation → Type 0
RefutesQuery coding q derivation = (formula : Formula) × IsFormulaFor coding q formula × Refutes formula derivation

-- there are so many derivations, and each refutes the query of its number, from 0
pub record RefuteEach (coding : Coding) (query : ℕ → Query) (count : ℕ) (derivations : List Derivation) : Type 0 where
  pub as_many : length derivations ≡ count
  pub each : (k : ℕ) (derivation : Derivation) → slice_get derivations k ≡ Some derivation → RefutesQuery coding (query k) derivation

-- the log spends a budget on the query's formula
abbrev pub IsSpentOn : Coding → Query → ℕ → Derivation → Type 0
IsSpentOn coding q budget log = (formula : Formula) × IsFormulaFor coding q formula × IsSpentLog formula log budget
