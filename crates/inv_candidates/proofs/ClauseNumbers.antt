-- Clauses of one or two literals, by numbers: equal numbers are equal clauses.
use Rattle.std.proofs.Common.{arith, ◌≡◌, ℕ, ◌<◌, Bool, true, false, ◌&&◌, ◌==◌, List, [], ◌∷◌, ◌++◌, length, map, get_or, take, ◌+◌}
use Rattle.std.proofs.Common.{refl, sym, ap, subst, ◌∙◌, Contains, Decides, if◌then◌else◌}
use Rattle.std.specs.Bool.{beq}
use Rattle.std.specs.Cmp.{IsEquivalence, decided, booleans_Decides}
use Rattle.std.specs.List.{list_any}
use Rattle.std.proofs.lemmas.Bool.{and_parts}
use Rattle.std.proofs.lemmas.Bool.Decides.{nat_tests}
use Rattle.std.proofs.lemmas.List.{map-append, length-map, get_or-map, take-map, map_more}
use Rattle.std.proofs.lemmas.Map.Views.{list_any-from_Contains, Contains-from_any}
use Rattle.indexmap.specs.IndexSet.{insert_key}
use Rattle.net_model.specs.declared.invariants.StateLit.{StateLit}
use Rattle.net_model.specs.declared.invariants.InvClause.{InvClause}
use Rattle.inv_candidates.specs.Clauses.{lit}
use Rattle.inv_candidates.specs.Listing.{AddsNew, No_more, Stands, Is_new, is_one, clause_of}
use Rattle.inv_candidates.specs.declared.shorts.Short.{Short}

-- the derived test
abbrev pub same_short : Short → Short → Bool
same_short a b = (a.reg == b.reg) && (beq a.value b.value && ((a.other == b.other) && beq a.other_value b.other_value))

pub short_is : (a b : Short) → a.reg ≡ b.reg → a.value ≡ b.value → a.other ≡ b.other → a.other_value ≡ b.other_value → a ≡ b
short_is a b p q r s = λ i. record { reg = p i; value = q i; other = r i; other_value = s i }

same_number : (a b : ℕ) → (a == b) ≡ true → a ≡ b
same_number a b e = grind (arith, nat_tests)

number_same : (a b : ℕ) → a ≡ b → (a == b) ≡ true
number_same a b e = grind (arith, nat_tests)

bit_is : (a b : Bool) → beq a b ≡ true → a ≡ b
bit_is a b e = (booleans_Decides a b).0 e

bit_same : (a b : Bool) → a ≡ b → beq a b ≡ true
bit_same a b e = (booleans_Decides a b).1 e

-- it tells whether two are equal
pub same_short-Decides : (a b : Short) → Decides (same_short a b) (a ≡ b)
same_short-Decides a b = (
  (λ e.
      let (p, rest) = and_parts (a.reg == b.reg) (beq a.value b.value && ((a.other == b.other) && beq a.other_value b.other_value)) e in
      let (q, more) = and_parts (beq a.value b.value) ((a.other == b.other) && beq a.other_value b.other_value) rest in
      let (r, s) = and_parts (a.other == b.other) (beq a.other_value b.other_value) more in
      short_is a b (same_number a.reg b.reg p) (bit_is a.value b.value q) (same_number a.other b.other r) (bit_is a.other_value b.other_value s)),
  (λ e.
      let p = number_same a.reg b.reg (ap (λ (s : Short). s.reg) e) in
      let q = bit_same a.value b.value (ap (λ (s : Short). s.value) e) in
      let r = number_same a.other b.other (ap (λ (s : Short). s.other) e) in
      let s = bit_same a.other_value b.other_value (ap (λ (s : Short). s.other_value) e) in
      rw (p, q, r, s) refl),
)

short_equivalence : IsEquivalence same_short
short_equivalence = decided same_short same_short-Decides

one_parts : (s : Short) → is_one s ≡ true → (s.reg ≡ s.other) × (s.value ≡ s.other_value)
one_parts s e =
    let (p, q) = and_parts (s.reg == s.other) (beq s.value s.other_value) e in
    (same_number s.reg s.other p, bit_is s.value s.other_value q)

-- the literals of a clause, by whether there is one
abbrev lits_of : Short → Bool → List StateLit
lits_of s one = if one then lit s.reg s.value ∷ [] else lit s.reg s.value ∷ lit s.other s.other_value ∷ []

-- a literal's parts, at a place of equal lists
lit_at : (k : ℕ) (xs ys : List StateLit) → xs ≡ ys → (get_or xs k (lit 0 false)).reg ≡ (get_or ys k (lit 0 false)).reg
lit_at k xs ys e = ap (λ (l : List StateLit). (get_or l k (lit 0 false)).reg) e

value_at : (k : ℕ) (xs ys : List StateLit) → xs ≡ ys → (get_or xs k (lit 0 false)).value ≡ (get_or ys k (lit 0 false)).value
value_at k xs ys e = ap (λ (l : List StateLit). (get_or l k (lit 0 false)).value) e

from_lits : (s t : Short) (a b : Bool) → is_one s ≡ a → is_one t ≡ b → lits_of s a ≡ lits_of t b → s ≡ t
from_lits s t true true p q e =
    let reg : s.reg ≡ t.reg = lit_at 0 (lits_of s true) (lits_of t true) e in
    let value : s.value ≡ t.value = value_at 0 (lits_of s true) (lits_of t true) e in
    let (s_reg, s_value) = one_parts s p in
    let (t_reg, t_value) = one_parts t q in
    short_is s t reg value (sym s_reg ∙ reg ∙ t_reg) (sym s_value ∙ value ∙ t_value)
from_lits s t true false p q e = absurd cc
from_lits s t false true p q e = absurd cc
from_lits s t false false p q e =
    let reg : s.reg ≡ t.reg = lit_at 0 (lits_of s false) (lits_of t false) e in
    let value : s.value ≡ t.value = value_at 0 (lits_of s false) (lits_of t false) e in
    let other : s.other ≡ t.other = lit_at 1 (lits_of s false) (lits_of t false) e in
    let other_value : s.other_value ≡ t.other_value = value_at 1 (lits_of s false) (lits_of t false) e in
    short_is s t reg value other other_value

-- different numbers are different clauses
pub clause_of-injective : (s t : Short) → clause_of s ≡ clause_of t → s ≡ t
clause_of-injective s t e = from_lits s t (is_one s) (is_one t) refl refl (ap (λ (c : InvClause). c.lits) e)

-- a clause that is listed is that of a key
key_of_clause : (keys : List Short) (s : Short) → Contains (map clause_of keys) (clause_of s) → Contains keys s
key_of_clause keys s (i, below, is) =
    let low : i < length keys = omega (arith, below, length-map keys clause_of) in
    let same : clause_of (get_or keys i s) ≡ clause_of s = sym (get_or-map clause_of keys i s (clause_of s) low) ∙ is in
    (i, low, clause_of-injective (get_or keys i s) s same)

clause_of_key : (keys : List Short) (s : Short) → Contains keys s → Contains (map clause_of keys) (clause_of s)
clause_of_key keys s (i, low, is) =
    let below : i < length (map clause_of keys) = omega (arith, low, length-map keys clause_of) in
    (i, below, get_or-map clause_of keys i s (clause_of s) low ∙ ap clause_of is)

by_test : (keys : List Short) (s : Short) (b : Bool) → list_any (same_short s) keys ≡ b
    → AddsNew (map clause_of keys) (clause_of s ∷ []) (map clause_of (if b then keys else keys ++ s ∷ []))
by_test keys s true e =
    Stands (map clause_of keys) (clause_of s) [] (map clause_of keys)
    (clause_of_key keys s (Contains-from_any {eq = same_short} (λ a b. (same_short-Decides a b).0) s keys e)) (No_more (map clause_of keys))
by_test keys s false e =
    let fresh : Contains (map clause_of keys) (clause_of s) → ⊥ =
    λ has. (let found = list_any-from_Contains short_equivalence s keys (key_of_clause keys s has) in absurd cc) in
    Is_new (map clause_of keys) (clause_of s) [] (map clause_of (keys ++ s ∷ [])) fresh
    (subst (λ (l : List InvClause). AddsNew l [] (map clause_of (keys ++ s ∷ []))) (map-append clause_of keys (s ∷ []))
    (No_more (map clause_of (keys ++ s ∷ []))))

-- a key that is inserted adds its clause
pub adds_key : (keys : List Short) (s : Short) → AddsNew (map clause_of keys) (clause_of s ∷ []) (map clause_of (insert_key same_short keys s))
adds_key keys s = by_test keys s (list_any (same_short s) keys) refl

-- one more of the first clauses
pub taken_more : (keys : List Short) (k : ℕ) (d : Short) → k < length keys
    → take (k + 1) (map clause_of keys) ≡ take k (map clause_of keys) ++ clause_of (get_or keys k d) ∷ []
taken_more keys k d low =
    take-map clause_of (k + 1) keys ∙ map_more clause_of keys k d low
    ∙ ap (λ (l : List InvClause). l ++ clause_of (get_or keys k d) ∷ []) (sym (take-map clause_of k keys))
