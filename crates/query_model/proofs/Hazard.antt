-- Clauses of cubes over two rails say what an output may be.
use Rattle.std.proofs.Common.{◌≡◌, ℕ, Bool, true, false, not, List, [], ◌∷◌, ◌++◌, map, length, refl, ap, sym, ◌∙◌, arith, inl, inr, subst}
use Rattle.std.specs.Prelude.{◌||◌}
use Rattle.std.proofs.lemmas.Bool.{or_from, and_parts, not-true}
use Rattle.net_model.specs.Ternary.{Completes}
use Rattle.net_model.specs.declared.terns.Tern.{Tern}
use Rattle.net_model.specs.declared.terns.Tern.TheVariants.{Zero, One, Unknown}
use Rattle.query_model.specs.Keys.{lit_value, opposite, is_true, AllTrue}
use Rattle.query_model.specs.Tables.{Cube, on_list, barred, escapes, may_be, may_clause, must_clause, hazard_clauses}
use Rattle.query_model.specs.Defined.{lies_in, tern_within}
use Rattle.query_model.specs.Laws.{may_one, may_zero}
use Rattle.net_model.proofs.Members.{In, In-left, In-right, In-map}
use Rattle.query_model.proofs.Members.{true_at}
use Rattle.query_model.proofs.Tabled.{Inside, Covers, value_opposite, value_push}
use Rattle.query_model.specs.declared.keys.Key.{Key}
use Rattle.query_model.specs.declared.keys.KeyLit.{KeyLit}

-- the rails of places tell their values
abbrev pub RailsTell : (Key → Type 0) → (Key → Bool) → List KeyLit → List KeyLit → List Tern → Type 0
RailsTell kind v [] [] [] = Unit {0}
RailsTell kind v (h ∷ hs) (l ∷ ls) (t ∷ ts) =
    (kind h.key → lit_value v h ≡ may_one t) × ((kind l.key → lit_value v l ≡ may_zero t) × RailsTell kind v hs ls ts)
RailsTell kind v _ _ _ = ⊥

may_complete_one : (t : Tern) → Completes t true → may_one t ≡ true
may_complete_one Zero c = absurd cc
may_complete_one One c = refl
may_complete_one Unknown c = refl

may_complete_zero : (t : Tern) → Completes t false → may_zero t ≡ true
may_complete_zero Zero c = refl
may_complete_zero One c = absurd cc
may_complete_zero Unknown c = refl

-- where a completion lies in the cube, no fixed place is barred from its bit
barred_false : (kind : Key → Type 0) (v : Key → Bool) (hs ls : List KeyLit) (ts : List Tern) (bits : List Bool) (us : List Tern)
    → RailsTell kind v hs ls ts → Inside bits ts → Inside bits us → ((l : KeyLit) → In l (barred hs ls us) → kind l.key)
    → is_true v (barred hs ls us) ≡ false
barred_false kind v [] ls ts bits us tell a b has = refl
barred_false kind v (h ∷ hs) [] ts bits us tell a b has = refl
barred_false kind v (h ∷ hs) (l ∷ ls) [] bits us tell a b has = absurd tell
barred_false kind v (h ∷ hs) (l ∷ ls) (t ∷ ts) [] us tell a b has = absurd a
barred_false kind v (h ∷ hs) (l ∷ ls) (t ∷ ts) (x ∷ xs) [] tell a b has = absurd b
barred_false kind v (h ∷ hs) (l ∷ ls) (t ∷ ts) (x ∷ xs) (Zero ∷ us) tell a b has =
    let may = tell.1.0 (has (opposite l) (inl refl)) ∙ may_complete_zero t (subst (Completes t) b.0 a.0) in
    or_from (lit_value v (opposite l)) (is_true v (barred hs ls us)) (value_opposite v l ∙ ap not may)
    (barred_false kind v hs ls ts xs us tell.1.1 a.1 b.1 (λ m i. has m (inr i)))
barred_false kind v (h ∷ hs) (l ∷ ls) (t ∷ ts) (x ∷ xs) (One ∷ us) tell a b has =
    let may = tell.0 (has (opposite h) (inl refl)) ∙ may_complete_one t (subst (Completes t) b.0 a.0) in
    or_from (lit_value v (opposite h)) (is_true v (barred hs ls us)) (value_opposite v h ∙ ap not may)
    (barred_false kind v hs ls ts xs us tell.1.1 a.1 b.1 (λ m i. has m (inr i)))
barred_false kind v (h ∷ hs) (l ∷ ls) (t ∷ ts) (x ∷ xs) (Unknown ∷ us) tell a b has =
    barred_false kind v hs ls ts xs us tell.1.1 a.1 b.1 has

within_zero : (t : Tern) → tern_within t Zero ≡ true → may_one t ≡ false
within_zero Zero e = refl
within_zero One e = absurd cc
within_zero Unknown e = absurd cc

within_one : (t : Tern) → tern_within t One ≡ true → may_zero t ≡ false
within_one Zero e = absurd cc
within_one One e = refl
within_one Unknown e = absurd cc

-- where all completions lie in the cube, no fixed place may escape it
escapes_false : (kind : Key → Type 0) (v : Key → Bool) (hs ls : List KeyLit) (ts us : List Tern) → RailsTell kind v hs ls ts → lies_in ts us ≡ true
    → ((l : KeyLit) → In l (escapes hs ls us) → kind l.key) → is_true v (escapes hs ls us) ≡ false
escapes_false kind v [] ls ts us tell e has = refl
escapes_false kind v (h ∷ hs) [] ts us tell e has = refl
escapes_false kind v (h ∷ hs) (l ∷ ls) [] us tell e has = absurd tell
escapes_false kind v (h ∷ hs) (l ∷ ls) (t ∷ ts) [] tell e has = refl
escapes_false kind v (h ∷ hs) (l ∷ ls) (t ∷ ts) (Zero ∷ us) tell e has =
    let parts = and_parts (tern_within t Zero) (lies_in ts us) e in
    or_from (lit_value v h) (is_true v (escapes hs ls us)) (tell.0 (has h (inl refl)) ∙ within_zero t parts.0)
    (escapes_false kind v hs ls ts us tell.1.1 parts.1 (λ m i. has m (inr i)))
escapes_false kind v (h ∷ hs) (l ∷ ls) (t ∷ ts) (One ∷ us) tell e has =
    let parts = and_parts (tern_within t One) (lies_in ts us) e in
    or_from (lit_value v l) (is_true v (escapes hs ls us)) (tell.1.0 (has l (inl refl)) ∙ within_one t parts.0)
    (escapes_false kind v hs ls ts us tell.1.1 parts.1 (λ m i. has m (inr i)))
escapes_false kind v (h ∷ hs) (l ∷ ls) (t ∷ ts) (Unknown ∷ us) tell e has =
    let parts = and_parts (tern_within t Unknown) (lies_in ts us) e in escapes_false kind v hs ls ts us tell.1.1 parts.1 has

-- each list of values on which the function is constant lies in a cube of that value
pub record Settles (cell : (ℕ → Bool) → Bool) (places : ℕ) (cubes : List Cube) : Type 0 where
  pub right : (cube : Cube) (bits : List Bool) → In cube cubes → Inside bits cube.fixed → on_list cell bits ≡ cube.value
  pub lens : (cube : Cube) → In cube cubes → length cube.fixed ≡ places
  pub boxes : (ts : List Tern) (b : Bool) → length ts ≡ places → ((bits : List Bool) → Inside bits ts → on_list cell bits ≡ b) → (cube : Cube)
      × In cube cubes × (cube.value ≡ b) × (lies_in ts cube.fixed ≡ true)

length_inside : (bits : List Bool) (ts : List Tern) → Inside bits ts → length bits ≡ length ts
length_inside [] [] e = refl
length_inside [] (t ∷ ts) e = absurd e
length_inside (b ∷ bs) [] e = absurd e
length_inside (b ∷ bs) (t ∷ ts) e = omega (arith, length_inside bs ts e.1)

last_true : (v : Key → Bool) (c : List KeyLit) (l : KeyLit) → is_true v (c ++ l ∷ []) ≡ true → is_true v c ≡ false → lit_value v l ≡ true
last_true v c l e none = ap (λ b. b || lit_value v l) (sym none) ∙ sym (value_push v c l) ∙ e

-- the output may have the value of each completion
pub hazard_may : (kind : Key → Type 0) (v : Key → Bool) (cell : (ℕ → Bool) → Bool) (hs ls : List KeyLit) (high low : KeyLit) (rows cubes : List Cube)
    (ts : List Tern) (bits : List Bool) → Covers cell (length ts) rows → RailsTell kind v hs ls ts
    → AllTrue v (hazard_clauses hs ls high low rows cubes) → ((c : List KeyLit) (l : KeyLit) → In c (hazard_clauses hs ls high low rows cubes)
    → In l c → kind l.key) → Inside bits ts → lit_value v (may_be (on_list cell bits) high low) ≡ true
hazard_may kind v cell hs ls high low rows cubes ts bits covers tell all has in' =
    let hit = covers.each bits (length_inside bits ts in') in
    let clause = may_clause hs ls high low hit.0 in
    let there = In-left clause (map (may_clause hs ls high low) rows) (map (must_clause hs ls high low) cubes)
    (In-map (may_clause hs ls high low) hit.0 rows hit.1) in
    let none = barred_false kind v hs ls ts bits hit.0.fixed tell in' hit.2
    (λ l i. has clause l there (In-left l (barred hs ls hit.0.fixed) (may_be hit.0.value high low ∷ []) i)) in
    let last = last_true v (barred hs ls hit.0.fixed) (may_be hit.0.value high low)
    (true_at v (hazard_clauses hs ls high low rows cubes) clause all there) none in
    subst (λ b. lit_value v (may_be b high low) ≡ true) (sym (covers.right hit.0 bits hit.1 hit.2)) last

-- and not the other value, where all completions have one
pub hazard_must : (kind : Key → Type 0) (v : Key → Bool) (cell : (ℕ → Bool) → Bool) (hs ls : List KeyLit) (high low : KeyLit) (rows cubes : List Cube)
    (ts : List Tern) (b : Bool) → Settles cell (length ts) cubes → RailsTell kind v hs ls ts → AllTrue v (hazard_clauses hs ls high low rows cubes)
    → ((c : List KeyLit) (l : KeyLit) → In c (hazard_clauses hs ls high low rows cubes) → In l c → kind l.key)
    → ((bits : List Bool) → Inside bits ts → on_list cell bits ≡ b) → lit_value v (may_be (not b) high low) ≡ false
hazard_must kind v cell hs ls high low rows cubes ts b settles tell all has same =
    let hit = settles.boxes ts b refl same in
    let clause = must_clause hs ls high low hit.0 in
    let there = In-right clause (map (may_clause hs ls high low) rows) (map (must_clause hs ls high low) cubes)
    (In-map (must_clause hs ls high low) hit.0 cubes hit.1) in
    let out = may_be (not hit.0.value) high low in
    let none = escapes_false kind v hs ls ts hit.0.fixed tell hit.3 (λ l i. has clause l there (In-left l (escapes hs ls hit.0.fixed) (opposite out ∷ []) i)) in
    let last = last_true v (escapes hs ls hit.0.fixed) (opposite out) (true_at v (hazard_clauses hs ls high low rows cubes) clause all there) none in
    subst (λ x. lit_value v (may_be (not x) high low) ≡ false) hit.2 (not-true (lit_value v out) (sym (value_opposite v out) ∙ last))
