-- Marks on variables, and what an analysis keeps of them.
use Rattle.std.specs.Prelude.{◌≡◌, ℕ, ◌<◌, ◌≤◌, ◌&&◌, ◌||◌, ◌==◌, Bool, true, not, List, map, filter, length, take, drop, slice_index}
use Rattle.proof_log.specs.Literals.{lit_var, negated}
use Rattle.proof_log.specs.Clauses.{is_set}
use Rattle.sat_solver.specs.declared.cuts.Cut.{Cut}

-- the stamp of each variable, and the present stamp
pub record Marked : Type 0 where
  pub stamps : List ℕ
  pub present : ℕ

-- no stamp is above the present one
pub record IsMarks (stamps : List ℕ) (present : ℕ) : Type 0 where
  pub some : 0 < present
  pub past : (v : ℕ) → slice_index stamps v ≤ present

-- whether the variable has the present stamp
abbrev pub is_marked : Marked → ℕ → Bool
is_marked m v = slice_index m.stamps v == m.present

-- the literals that the set literals of marked variables make false
abbrev pub marked_lits : Marked → List ℕ → List ℕ
marked_lits m trail = filter (λ l. is_marked m (lit_var l)) (map negated trail)

-- how many of the literals are of marked variables
abbrev pub marked_count : Marked → List ℕ → ℕ
marked_count m lits = length (filter (λ l. is_marked m (lit_var l)) lits)

-- the literals are the marked ones that the levels between the two places make false, and so many others are above and below
pub record IsGathered (trail : List ℕ) (base start : ℕ) (m : Marked) (lits : List ℕ) (up down : ℕ) : Type 0 where
  pub low : base ≤ start
  pub between : (l : ℕ) → is_set lits l ≡ (is_set (drop base (take start trail)) (negated l) && is_marked m (lit_var l))
  pub above : up ≡ marked_count m (drop start trail)
  pub below : down ≡ marked_count m (take base trail)

-- a cut has the marked literals between its two places, and counts those above and below
abbrev pub Gathered : List ℕ → Cut → Marked → Type 0
Gathered trail cut m = IsGathered trail cut.base cut.start m cut.lits.items cut.above cut.below

-- of the false literals those of the clause are marked too
abbrev pub AreMarked : List ℕ → List ℕ → Marked → Marked → Type 0
AreMarked trail clause old new =
    (l : ℕ) → is_set trail (negated l) ≡ true → is_marked new (lit_var l) ≡ (is_marked old (lit_var l) || is_set clause l)

-- of the false literals the complement of p is marked no more, and those of p's reason are
abbrev pub AreReplaced : List ℕ → ℕ → List ℕ → Marked → Marked → Type 0
AreReplaced trail p reason old new =
    (l : ℕ) → is_set trail (negated l) ≡ true
    → is_marked new (lit_var l) ≡ ((is_marked old (lit_var l) && not (lit_var p == lit_var l)) || is_set reason l)

-- the literals are the marked ones that the levels between the two places make false
abbrev pub AreBetween : List ℕ → ℕ → ℕ → Marked → List ℕ → Type 0
AreBetween trail base start m lits = (l : ℕ) → is_set lits l ≡ (is_set (drop base (take start trail)) (negated l) && is_marked m (lit_var l))

-- no variable is newly marked
abbrev pub AreFewer : Marked → Marked → Type 0
AreFewer old new = (v : ℕ) → is_marked new v ≡ true → is_marked old v ≡ true
