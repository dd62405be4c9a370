-- Clauses that stand one after another in one list of literals.
use Rattle.std.specs.Prelude.{◌≡◌, ℕ, ◌≤◌, List, [], ◌∷◌}
use Rattle.std.specs.List.{between}

-- the clauses that end at these places, where the first begins at that one and each other where the one before it ends
abbrev pub clauses_of : List ℕ → ℕ → List ℕ → List (List ℕ)
clauses_of lits start [] = []
clauses_of lits start (end ∷ ends) = between start end lits ∷ clauses_of lits end ends

-- no place is before the one before it, of which the first is after that start, and the last is the end of so many literals
abbrev pub AreEnds : ℕ → List ℕ → ℕ → Type 0
AreEnds start [] len = start ≡ len
AreEnds start (end ∷ ends) len = (start ≤ end) × AreEnds end ends len
