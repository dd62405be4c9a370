-- What the models of a query's formula are: its answers, in both directions; and what rails the layers have in them.
use Rattle.std.specs.Prelude.{◌≡◌, ℕ, zero, suc, ◌+◌, ◌<◌, ◌≤◌, Bool, true, false, List, length, Contains, None, Some, slice_get}
use Rattle.net_model.specs.Cycles.{bit_at, capture}
use Rattle.net_model.specs.Layers.{net_at}
use Rattle.net_model.specs.Ternary.{AreTernaryLayers, IsTernaryCapture}
use Rattle.net_model.specs.declared.netlist.Design.{Design}
use Rattle.net_model.specs.declared.cycles.Cycle.{Cycle}
use Rattle.net_model.specs.declared.claims.Claim.{Claim}
use Rattle.net_model.specs.declared.claims.End.TheVariants.{Reg as RegEnd}
use Rattle.net_model.specs.declared.terns.Tern.{Tern}
use Rattle.net_model.specs.declared.terns.Tern.TheVariants.{Zero, One, Unknown}
use Rattle.query_model.specs.Keys.{key, AllTrue}
use Rattle.query_model.specs.Reads.{bit_key, input_key}
use Rattle.net_model.specs.Queries.{Query, AreCyclesOf, IsAnswer}
use Rattle.query_model.specs.Defined.{set_in, late_key}
use Rattle.query_model.specs.Formula.{IsFormulaOf}
use Rattle.query_model.specs.Variables.{IsProblemOf, AllCodesTrue, by_number}
use Rattle.query_model.specs.declared.keys.Key.{Key}
use Rattle.query_model.specs.declared.keys.KeyLit.{KeyLit}
use Rattle.query_model.specs.declared.keys.Coding.{Coding}

-- the register bits of the first cycle, and the bits of inputs that are neither fixed nor reset, are those of the model
-- wherever it has a value for them
pub record HasFreeBits (d : Design) (keys : List Key) (v : Key → Bool) (run : List Cycle) : Type 0 where
  pub bits : (c : Cycle) (r : ℕ) → slice_get run 0 ≡ Some c → r < length d.regs → Contains keys (bit_key d 0 r) → v (bit_key d 0 r) ≡ bit_at c.bits r
  pub inputs : (t : ℕ) (c : Cycle) (i : ℕ) → slice_get run t ≡ Some c → i < length d.inputs → set_in d.fixed i ≡ None → set_in d.resets i ≡ None
      → Contains keys (input_key d t i) → v (input_key d t i) ≡ bit_at c.ins i

-- wherever the model has a value for a net or for a register bit, also for a bit of the cycle after, it is the run's
pub record AgreesWith (d : Design) (keys : List Key) (v : Key → Bool) (run : List Cycle) : Type 0 where
  pub nets : (t : ℕ) (c : Cycle) (n : ℕ) → slice_get run t ≡ Some c → n < d.nets → Contains keys (key t 0 0 n) → v (key t 0 0 n) ≡ bit_at c.nets n
  pub bits : (t : ℕ) (c : Cycle) (r : ℕ) → slice_get run t ≡ Some c → r < length d.regs → Contains keys (bit_key d t r) → v (bit_key d t r) ≡ bit_at c.bits r
  pub captures : (t : ℕ) (c : Cycle) (r : ℕ) → slice_get run t ≡ Some c → r < length d.regs → Contains keys (bit_key d (t + 1) r)
      → v (bit_key d (t + 1) r) ≡ capture d (RegEnd r) c

-- each model is an answer: the cycles that have its free bits answer the query, and agree with it
abbrev pub ModelsAnswer : Coding → Query → Type 0
ModelsAnswer coding q =
    (keys : List Key) (clauses : List (List KeyLit)) (v : Key → Bool) (run : List Cycle) → IsFormulaOf coding q keys clauses
    → AllTrue v clauses → AreCyclesOf q run → HasFreeBits q.design keys v run → IsAnswer q run × AgreesWith q.design keys v run

-- each answer gives a model that agrees with it
abbrev pub AnswersHaveModels : Coding → Query → Type 0
AnswersHaveModels coding q =
    (keys : List Key) (clauses : List (List KeyLit)) (run : List Cycle) → IsFormulaOf coding q keys clauses → IsAnswer q run
    → (v : Key → Bool) × AllTrue v clauses × AgreesWith q.design keys v run

-- the same over numbered variables: each model of the problem is an answer
abbrev pub NumberedModelsAnswer : Coding → Query → Type 0
NumberedModelsAnswer coding q =
    (keys : List Key) (vars : ℕ) (clauses : List (List ℕ)) (v : ℕ → Bool) (run : List Cycle) → IsProblemOf coding q keys vars clauses
    → AllCodesTrue v clauses → AreCyclesOf q run → HasFreeBits q.design keys (by_number keys v) run
    → IsAnswer q run × AgreesWith q.design keys (by_number keys v) run

-- and each answer gives a model that agrees with it
abbrev pub AnswersHaveNumberedModels : Coding → Query → Type 0
AnswersHaveNumberedModels coding q =
    (keys : List Key) (vars : ℕ) (clauses : List (List ℕ)) (run : List Cycle) → IsProblemOf coding q keys vars clauses → IsAnswer q run
    → (v : ℕ → Bool) × AllCodesTrue v clauses × AgreesWith q.design keys (by_number keys v) run

-- there is one problem of a query: its keys, how many variables it has, and its clauses
abbrev pub HasOneProblem : Coding → Query → Type 0
HasOneProblem coding q =
    (keys others : List Key) (vars counts : ℕ) (clauses more : List (List ℕ)) → IsProblemOf coding q keys vars clauses → IsProblemOf coding q others counts more
    → (keys ≡ others) × (vars ≡ counts) × (clauses ≡ more)

-- a value may be 1
abbrev pub may_one : Tern → Bool
may_one Zero = false
may_one One = true
may_one Unknown = true

-- a value may be 0
abbrev pub may_zero : Tern → Bool
may_zero Zero = true
may_zero One = false
may_zero Unknown = true

-- rail 0 says that a value may be 1, and rail 1 that it may be 0
abbrev pub rail_value : ℕ → Tern → Bool
rail_value zero x = may_one x
rail_value (suc rail) x = may_zero x

-- wherever the model has a value for a rail of a net in a layer, or of the late capture, it is that rail of the ternary
-- value, the start being unknown
pub record HasRails (d : Design) (claim : Claim) (keys : List Key) (v : Key → Bool) (run : List Cycle) : Type 0 where
  pub nets : (t l rail n : ℕ) (c : Cycle) (rows : List (List Tern)) → slice_get run t ≡ Some c
      → AreTernaryLayers d claim.start claim.through c.nets rows → l ≤ length claim.through → rail ≤ 1 → n < d.nets
      → Contains keys (key t (l + 1) rail n) → v (key t (l + 1) rail n) ≡ rail_value rail (net_at Zero rows l n)
  pub capture : (t rail : ℕ) (c : Cycle) (late : Tern) → slice_get run t ≡ Some c → IsTernaryCapture d claim c late → rail ≤ 1
      → Contains keys (late_key d claim t rail) → v (late_key d claim t rail) ≡ rail_value rail late

-- each model of the claim's query has the rails of the ternary layers
abbrev pub ModelsHaveRails : Coding → Claim → Query → Type 0
ModelsHaveRails coding claim q =
    (keys : List Key) (clauses : List (List KeyLit)) (v : Key → Bool) (run : List Cycle) → IsFormulaOf coding q keys clauses
    → AllTrue v clauses → AreCyclesOf q run → HasFreeBits q.design keys v run → HasRails q.design claim keys v run

-- the same over numbered variables
abbrev pub NumberedHaveRails : Coding → Claim → Query → Type 0
NumberedHaveRails coding claim q =
    (keys : List Key) (vars : ℕ) (clauses : List (List ℕ)) (v : ℕ → Bool) (run : List Cycle) → IsProblemOf coding q keys vars clauses
    → AllCodesTrue v clauses → AreCyclesOf q run → HasFreeBits q.design keys (by_number keys v) run → HasRails q.design claim keys (by_number keys v) run
