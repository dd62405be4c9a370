-- What the analysis of a conflict keeps.
use Rattle.std.specs.Prelude.{◌≡◌, ℕ, ◌+◌, ◌<◌, ◌≤◌, ◌==◌, true, false, not, List, [], ◌∷◌, ◌++◌, map, take, drop, reverse, length, filter, slice_index}
use Rattle.std.specs.Bool.{MatchBool}
use Rattle.proof_log.specs.Literals.{lit_var, negated}
use Rattle.proof_log.specs.Clauses.{is_set}
use Rattle.proof_log.specs.Derivations.{LeadsToConflict}
use Rattle.sat_solver.specs.Learning.{OthersFalse}

-- the complement of each literal is set
abbrev pub FalseBy : List ℕ → List ℕ → Type 0
FalseBy set clause = (l : ℕ) → is_set clause l ≡ true → is_set set (negated l) ≡ true

-- neither the literals nor their complements are set
abbrev pub Apart : List ℕ → List ℕ → Type 0
Apart set lits = (p : ℕ) → is_set lits p ≡ true → (is_set set p ≡ false) × (is_set set (negated p) ≡ false)

-- no literal of the one is of a variable of the other
abbrev pub OtherVars : List ℕ → List ℕ → Type 0
OtherVars a b = (p q : ℕ) → is_set a p ≡ true → is_set b q ≡ true → lit_var p ≡ lit_var q → ⊥

-- wherever the cut is false and the later literals are unset, the hints lead to a conflict
abbrev pub Leads : List (List ℕ) → List ℕ → List ℕ → List ℕ → Type 0
Leads clauses later cut hints = (set : List ℕ) → FalseBy set cut → Apart set later → LeadsToConflict clauses set hints

-- the cut is false by the literals of the front and of the rest, and its hints set the later ones
pub record CutState (clauses : List (List ℕ)) (front rest later cut hints : List ℕ) : Type 0 where
  pub falsified : FalseBy (front ++ rest) cut
  pub leads : Leads clauses later cut (reverse hints)

-- the cut with the complement of p replaced by the rest of p's reason
abbrev pub resolvent : List ℕ → ℕ → List ℕ → List ℕ
resolvent cut p reason = filter (λ l. not (l == negated p)) cut ++ filter (λ l. not (l == p)) reason

abbrev pub ResolvedAt : List ℕ → List ℕ → ℕ → ℕ → List ℕ → List ℕ → List ℕ → Type 0
ResolvedAt cut hints p place reason next more =
    MatchBool (is_set cut (negated p)) ((next ≡ resolvent cut p reason) × (more ≡ hints ++ (place + 1) ∷ [])) ((next ≡ cut) × (more ≡ hints))

-- a cut whose literals are false by the levels below, but for the one that the literal at that place makes false
pub record IsUnitCut (clauses : List (List ℕ)) (trail : List ℕ) (start at : ℕ) (cut hints : List ℕ) : Type 0 where
  pub from : start ≤ at
  pub within : at < length trail
  pub state : CutState clauses (take (at + 1) trail) [] (drop (at + 1) trail) cut hints
  pub others : OthersFalse (take start trail) cut (negated (slice_index trail at))

-- the literals that the first set ones make false are resolved away, and others are kept
pub record ResolvedBelow (clauses : List (List ℕ)) (trail : List ℕ) (end : ℕ) (cut hints next more : List ℕ) : Type 0 where
  pub keeps : (u : ℕ) → is_set cut u ≡ true → is_set (take end trail) (negated u) ≡ false → is_set next u ≡ true
  pub state : (rest later : List ℕ) → OtherVars (take end trail) later → CutState clauses (take end trail) rest later cut hints
      → CutState clauses [] rest (take end trail ++ later) next more

-- the literals that make an asserting clause false: those of the levels from 1 to below the present one, and the unit's
abbrev pub asserting_lits : List ℕ → ℕ → ℕ → ℕ → List ℕ
asserting_lits trail base start at = drop base (take start trail) ++ slice_index trail at ∷ []

-- a cut whose literals make an asserting clause, with its hints in order
pub record IsAsserting (clauses : List (List ℕ)) (trail : List ℕ) (base start at : ℕ) (cut hints : List ℕ) : Type 0 where
  pub low : base ≤ start
  pub from : start ≤ at
  pub within : at < length trail
  pub falsified : FalseBy (asserting_lits trail base start at) cut
  pub inside : is_set cut (negated (slice_index trail at)) ≡ true
  pub follows : (c : List ℕ) → ((l : ℕ) → is_set c l ≡ is_set cut l) → LeadsToConflict clauses (map negated c) hints

-- the clause has the literal, and each other one of its literals is in the cut
pub record IsCovered (cut clause : List ℕ) (p : ℕ) : Type 0 where
  pub has : is_set clause p ≡ true
  pub others : (q : ℕ) → is_set clause q ≡ true → (q ≡ p → ⊥) → is_set cut q ≡ true

-- where the one cut makes an asserting clause with its hints, the last one first, so does the other
abbrev pub KeepsAsserting : List (List ℕ) → List ℕ → ℕ → ℕ → List ℕ → List ℕ → List ℕ → List ℕ → Type 0
KeepsAsserting clauses trail base start cut hints next more =
    (at : ℕ) → IsAsserting clauses trail base start at cut (reverse hints) → IsAsserting clauses trail base start at next (reverse more)
