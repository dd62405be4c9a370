-- Keys of a table, each of which stands for a clause: a key that is new adds its clause.
use Rattle.std.proofs.Common.{arith, ◌≡◌, ℕ, ◌+◌, ◌<◌, Bool, true, false, true≢false, ◌&&◌, ◌||◌, ◌==◌, List, [], ◌∷◌, ◌++◌, Vec, Global}
use Rattle.std.proofs.Common.{Some, slice_get, length, map, get_or, take, refl, sym, ap, subst, ◌∙◌, inl, inr, Contains, Decides, if◌then◌else◌}
use Rattle.std.specs.Bool.{beq}
use Rattle.std.specs.Cmp.{booleans_Decides}
use Rattle.std.specs.Cmp.Lexicographic.{pointwise}
use Rattle.std.specs.List.{list_any}
use Rattle.std.proofs.lemmas.Bool.{and_parts}
use Rattle.std.proofs.lemmas.Bool.Decides.{nat_tests}
use Rattle.std.proofs.lemmas.List.{map-append, take-map, map_more, take_more}
use Rattle.std.proofs.lemmas.Option.{slice_get_within, get_or_from_slice_get}
use Rattle.std.proofs.lemmas.List.Elements.{Contains-append_right, Contains-append_cases}
use Rattle.std.proofs.lemmas.Slice.Eq.{slice_eq-Decides}
use Rattle.indexmap.specs.IndexSet.{insert_key}
use Rattle.net_model.specs.declared.invariants.StateLit.{StateLit}
use Rattle.net_model.specs.declared.invariants.InvClause.{InvClause}
use Rattle.inv_candidates.specs.Listing.{AddsNew, No_more, Stands, Is_new, lit_of, clause_of_row}
use Rattle.inv_candidates.specs.declared.tables.RowLit.{RowLit}

-- keys are told apart by what they stand for
module _ {K A : Type 0} (eq : K → K → Bool) (f : K → A) (tells : (a b : K) → Decides (eq a b) (f a ≡ f b)) (k : K) where
  -- what an equal key stands for is listed
  has_found : (keys : List K) → list_any (eq k) keys ≡ true → Contains (map f keys) (f k)
  has_found [] e = absurd (true≢false (sym e))
  has_found (x ∷ xs) e = by (eq k x) refl (λ other. has_found xs (sym (ap (λ c. c || list_any (eq k) xs) other) ∙ e))
    where
      by : (b : Bool) → eq k x ≡ b → (eq k x ≡ false → Contains (map f xs) (f k)) → Contains (f x ∷ map f xs) (f k)
      by true same rest = (0, omega arith, sym ((tells k x).0 same))
      by false other rest = Contains-append_right (f x ∷ []) (map f xs) (f k) (rest other)

  -- where no key is equal, it is not
  none_found : (keys : List K) → list_any (eq k) keys ≡ false → Contains (map f keys) (f k) → ⊥
  none_found [] e has = absurd (omega (arith, has.1))
  none_found (x ∷ xs) e has = by (eq k x) refl (λ other. none_found xs (sym (ap (λ c. c || list_any (eq k) xs) other) ∙ e))
    where
      by : (b : Bool) → eq k x ≡ b → (eq k x ≡ false → Contains (map f xs) (f k) → ⊥) → ⊥
      by true same rest = true≢false (sym (ap (λ c. c || list_any (eq k) xs) same) ∙ e)
      by false other rest = elim (Contains-append_cases (f x ∷ []) (map f xs) (f k) has) [
        | inl first ↦ true≢false (sym ((tells k x).1 (lone first)) ∙ other)
        | inr later ↦ rest other later
      ]
        where
          lone : Contains (f x ∷ []) (f k) → f k ≡ f x
          lone (i, below, is) = sym (subst (λ n. get_or (f x ∷ []) n (f k) ≡ f k) (zero_of i below) is)
            where
              zero_of : (n : ℕ) → n < 1 → n ≡ 0
              zero_of n low = omega (arith, low)

  -- a key that is inserted adds what it stands for
  pub adds_table_key : (keys : List K) → AddsNew (map f keys) (f k ∷ []) (map f (insert_key eq keys k))
  adds_table_key keys = by (list_any (eq k) keys) refl
    where
      by : (b : Bool) → list_any (eq k) keys ≡ b → AddsNew (map f keys) (f k ∷ []) (map f (if b then keys else keys ++ k ∷ []))
      by true e = Stands (map f keys) (f k) [] (map f keys) (has_found keys e) (No_more (map f keys))
      by false e = Is_new (map f keys) (f k) [] (map f (keys ++ k ∷ [])) (none_found keys e)
          (subst (λ (l : List A). AddsNew l [] (map f (keys ++ k ∷ []))) (map-append f keys (k ∷ [])) (No_more (map f (keys ++ k ∷ []))))

-- the derived test
abbrev pub same_lit : RowLit → RowLit → Bool
same_lit a b = (a.reg == b.reg) && beq a.value b.value

same_number : (a b : ℕ) → (a == b) ≡ true → a ≡ b
same_number a b e = grind (arith, nat_tests)

number_same : (a b : ℕ) → a ≡ b → (a == b) ≡ true
number_same a b e = grind (arith, nat_tests)

lit_is : (a b : RowLit) → a.reg ≡ b.reg → a.value ≡ b.value → a ≡ b
lit_is a b p q = λ i. record { reg = p i; value = q i }

-- it tells whether two are equal
same_lit-Decides : (a b : RowLit) → Decides (same_lit a b) (a ≡ b)
same_lit-Decides a b = (
  (λ e.
      let (p, q) = and_parts (a.reg == b.reg) (beq a.value b.value) e in
      lit_is a b (same_number a.reg b.reg p) ((booleans_Decides a.value b.value).0 q)),
  (λ e.
      let p = number_same a.reg b.reg (ap (λ (l : RowLit). l.reg) e) in
      let q = (booleans_Decides a.value b.value).1 (ap (λ (l : RowLit). l.value) e) in
      rw (p, q) refl),
)

-- the literal for which one of a clause stands
abbrev row_lit : StateLit → RowLit
row_lit l = record { reg = l.reg; value = l.value }

back : (xs : List RowLit) → map row_lit (map lit_of xs) ≡ xs
back [] = refl
back (x ∷ xs) = ap (λ (l : List RowLit). x ∷ l) (back xs)

lits_injective : (xs ys : List RowLit) → map lit_of xs ≡ map lit_of ys → xs ≡ ys
lits_injective xs ys e = sym (back xs) ∙ ap (λ (l : List StateLit). map row_lit l) e ∙ back ys

-- rows are told apart by their clauses
abbrev pub same_row : Vec RowLit Global → Vec RowLit Global → Bool
same_row a b = pointwise same_lit a.items b.items

pub tells_rows : (a b : Vec RowLit Global) → Decides (same_row a b) (clause_of_row a ≡ clause_of_row b)
tells_rows a b =
    let tells = slice_eq-Decides same_lit-Decides a.items b.items (same_row a b) refl in (
      (λ e. ap (λ (l : List RowLit). record { lits = map lit_of l }) (tells.0 e)),
      (λ e. tells.1 (lits_injective a.items b.items (ap (λ (c : InvClause). c.lits) e))),
    )

-- one more of the clauses of some rows
pub rows_more : (rows : List (Vec RowLit Global)) (k : ℕ) (d : Vec RowLit Global) → k < length rows
    → take (k + 1) (map clause_of_row rows) ≡ take k (map clause_of_row rows) ++ clause_of_row (get_or rows k d) ∷ []
rows_more rows k d low =
    take-map clause_of_row (k + 1) rows ∙ map_more clause_of_row rows k d low
    ∙ ap (λ (l : List InvClause). l ++ clause_of_row (get_or rows k d) ∷ []) (sym (take-map clause_of_row k rows))

-- one more literal of a row, and of a clause
pub row_more : (row : List RowLit) (x : RowLit) (lits : List StateLit) (k : ℕ) (l : StateLit) (new : List RowLit) → map lit_of row ≡ take k lits
    → slice_get lits k ≡ Some l → lit_of x ≡ l → new ≡ row ++ x ∷ [] → map lit_of new ≡ take (k + 1) lits
row_more row x lits k l new before at same is =
    ap (λ (r : List RowLit). map lit_of r) is ∙ map-append lit_of row (x ∷ []) ∙ ap (λ (ls : List StateLit). ls ++ lit_of x ∷ []) before
    ∙ ap (λ (y : StateLit). take k lits ++ y ∷ []) (same ∙ sym (get_or_from_slice_get lits k l l at))
    ∙ sym (take_more lits k l (slice_get_within lits k l at))

pub lits_more : (lits : List StateLit) (row : List RowLit) (k : ℕ) (x : RowLit) (new : List StateLit) → k < length row
    → lits ≡ map lit_of (take k row) → new ≡ lits ++ lit_of (get_or row k x) ∷ [] → new ≡ map lit_of (take (k + 1) row)
lits_more lits row k x new low before is =
    is ∙ ap (λ (ls : List StateLit). ls ++ lit_of (get_or row k x) ∷ []) before ∙ sym (map_more lit_of row k x low)

-- clauses of equal literals
abbrev pub record_of : List StateLit → InvClause
record_of lits = record { lits = lits }

pub clause_with : {xs ys : List StateLit} → xs ≡ ys → record_of xs ≡ record_of ys
clause_with e = ap record_of e
