-- The other way round: rails of a function's value make the clauses true; an unknown value may be both.
use Rattle.std.proofs.Common.{◌≡◌, ◌≢◌, ℕ, zero, suc, ◌<◌, ◌≤◌, Bool, true, false, not, List, [], ◌∷◌, map, length, refl, ap, sym, ◌∙◌, arith, inl}
use Rattle.std.proofs.Common.{inr, ◌⊎◌, subst}
use Rattle.std.specs.Prelude.{slice_index_or}
use Rattle.std.proofs.lemmas.Bool.{or_left, or_right, and_from, cases_Bool, cases_lt}
use Rattle.net_model.specs.Ternary.{Completes}
use Rattle.net_model.specs.Completions.{ReadsOnly}
use Rattle.net_model.specs.Ternary.{tern_of}
use Rattle.net_model.specs.Splitting.{join, split, with_bit, common, cell_value}
use Rattle.net_model.specs.declared.terns.Tern.{Tern}
use Rattle.net_model.specs.declared.terns.Tern.TheVariants.{Zero, One, Unknown}
use Rattle.query_model.specs.Keys.{lit_value, opposite, is_true, AllTrue}
use Rattle.query_model.specs.Tables.{on_list, barred, escapes, may_be, may_clause, must_clause, hazard_clauses}
use Rattle.query_model.specs.Defined.{lies_in, tern_within}
use Rattle.net_model.proofs.Members.{In-cases, from_map}
use Rattle.query_model.proofs.Members.{all_true}
use Rattle.query_model.proofs.Tabled.{Inside, Covers, value_opposite, value_push}
use Rattle.query_model.proofs.Runs.{AnyKey}
use Rattle.query_model.specs.Laws.{may_one, may_zero}
use Rattle.query_model.proofs.Hazard.{RailsTell, Settles}
use Rattle.query_model.proofs.Codings.{list_of, listed_at, listed_past, inside_listed, past_zero, with_same, with_other}
use Rattle.query_model.specs.declared.keys.Key.{Key}
use Rattle.query_model.specs.declared.keys.KeyLit.{KeyLit}
use Rattle.query_model.specs.declared.keys.Cube.{Cube}

-- a known bit of a join is one of the two
join_completes : (x y : Tern) (b : Bool) → Completes (join x y) b → Completes x b ⊎ Completes y b
join_completes Zero Zero b c = inl c
join_completes One One b c = inl c
join_completes Unknown y b c = inl tt
join_completes Zero Unknown b c = inr tt
join_completes One Unknown b c = inr tt
join_completes Zero One true c = inr refl
join_completes Zero One false c = inl refl
join_completes One Zero true c = inl refl
join_completes One Zero false c = inr refl

tern_completes : (x b : Bool) → Completes (tern_of x) b → x ≡ b
tern_completes true b c = sym c
tern_completes false b c = sym c

abbrev Completion : ℕ → ((ℕ → Bool) → Bool) → (ℕ → Tern) → (ℕ → Bool) → Bool → Type 0
Completion k f t a b =
    (bits : ℕ → Bool) × ((i : ℕ) → i < k → Completes (t i) (bits i)) × ((i : ℕ) → k ≤ i → bits i ≡ a i) × (f bits ≡ b)

extend : (k : ℕ) (f : (ℕ → Bool) → Bool) (t : ℕ → Tern) (a : ℕ → Bool) (bit b : Bool) → Completes (t k) bit → Completion k f t (with_bit a k bit) b
    → Completion (suc k) f t a b
extend k f t a bit b fits c =
    let here : c.0 k ≡ bit = c.2 k (omega arith) ∙ with_same a k bit in (
      c.0,
      λ i lt. elim (cases_lt i k) [
        | inl less ↦ c.1 i less
        | inr ge ↦ let e : k ≡ i = omega arith in subst (λ j. Completes (t j) (c.0 j)) e (subst (Completes (t k)) (sym here) fits)
      ],
      λ i low. let ne : i ≢ k = λ e. omega arith in c.2 i (omega arith) ∙ with_other a k bit i ne,
      c.3,
    )

-- a bit that the common value may be is the value of a completion
some_completion : (k : ℕ) (f : (ℕ → Bool) → Bool) (t : ℕ → Tern) (a : ℕ → Bool) (b : Bool) → Completes (common k f t a) b → Completion k f t a b
some_completion zero f t a b c = (a, λ i lt. absurd (omega arith), λ i low. refl, tern_completes (f a) b c)
some_completion (suc k) f t a b c = by_value (t k) refl c (some_completion k f t (with_bit a k false) b) (some_completion k f t (with_bit a k true) b) where
  by_value : (x : Tern) → t k ≡ x → Completes (split x (λ bit. common k f t (with_bit a k bit))) b
      → (Completes (common k f t (with_bit a k false)) b → Completion k f t (with_bit a k false) b)
      → (Completes (common k f t (with_bit a k true)) b → Completion k f t (with_bit a k true) b) → Completion (suc k) f t a b
  by_value Zero e c low high = extend k f t a false b (subst (λ (x : Tern). Completes x false) (sym e) refl) (low c)
  by_value One e c low high = extend k f t a true b (subst (λ (x : Tern). Completes x true) (sym e) refl) (high c)
  by_value Unknown e c low high =
      elim (join_completes (common k f t (with_bit a k false)) (common k f t (with_bit a k true)) b c) [
        | inl l ↦ extend k f t a false b (subst (λ (x : Tern). Completes x false) (sym e) tt) (low l)
        | inr r ↦ extend k f t a true b (subst (λ (x : Tern). Completes x true) (sym e) tt) (high r)
      ]

pub some_bits : (cell : (ℕ → Bool) → Bool) (ts : List Tern) (b : Bool) → length ts ≤ 7 → ReadsOnly 7 cell
    → Completes (cell_value cell (λ i. slice_index_or ts i Zero)) b → (bits : List Bool) × Inside bits ts × (on_list cell bits ≡ b)
unfolding cell_value
some_bits cell ts b few only c =
    let n = length ts in
    let made = some_completion 7 cell (λ i. slice_index_or ts i Zero) (λ _. false) b c in
    let f = made.0 in (
      list_of n f,
      inside_listed ts f (λ i lt. made.1 i (omega arith)),
      only (λ i. slice_index_or (list_of n f) i false) f
          (λ i lt. elim (cases_lt i n) [
            | inl less ↦ listed_at n f i less
            | inr ge ↦ listed_past n f i ge ∙ sym (subst (λ t. Completes t (f i)) (past_zero ts i ge) (made.1 i lt))
          ])
          ∙ made.3,
    )

one_of : (t : Tern) → (may_one t ≡ true → Completes t true) × (may_zero t ≡ true → Completes t false)
one_of Zero = (λ e. absurd cc, λ e. refl)
one_of One = (λ e. refl, λ e. absurd cc)
one_of Unknown = (λ e. tt, λ e. tt)

pub any_bit : (t : Tern) → (b : Bool) × Completes t b
any_bit Zero = (false, refl)
any_bit One = (true, refl)
any_bit Unknown = (false, tt)

-- a fixed place is barred from its bit, or some completion lies in the cube
barred_cases : (v : Key → Bool) (hs ls : List KeyLit) (ts us : List Tern) → RailsTell AnyKey v hs ls ts → length us ≡ length ts
    → (is_true v (barred hs ls us) ≡ true) ⊎ ((bits : List Bool) × Inside bits ts × Inside bits us)
barred_cases v [] [] [] [] tell len = inr ([], tt, tt)
barred_cases v [] [] [] (u ∷ us) tell len = absurd (omega arith)
barred_cases v [] [] (t ∷ ts) us tell len = absurd tell
barred_cases v [] (l ∷ ls) ts us tell len = absurd tell
barred_cases v (h ∷ hs) [] ts us tell len = absurd tell
barred_cases v (h ∷ hs) (l ∷ ls) [] us tell len = absurd tell
barred_cases v (h ∷ hs) (l ∷ ls) (t ∷ ts) [] tell len = absurd (omega arith)
barred_cases v (h ∷ hs) (l ∷ ls) (t ∷ ts) (Zero ∷ us) tell len =
    elim (cases_Bool (lit_value v l)) [
      | inr no_zero ↦ inl (or_left (lit_value v (opposite l)) (is_true v (barred hs ls us)) (value_opposite v l ∙ ap not no_zero))
      | inl may ↦ elim (barred_cases v hs ls ts us tell.1.1 (omega arith)) [
        | inl later ↦ inl (or_right (lit_value v (opposite l)) (is_true v (barred hs ls us)) later)
        | inr rest ↦ inr (false ∷ rest.0, ((one_of t).1 (sym (tell.1.0 tt) ∙ may), rest.1), (refl, rest.2))
      ]
    ]
barred_cases v (h ∷ hs) (l ∷ ls) (t ∷ ts) (One ∷ us) tell len =
    elim (cases_Bool (lit_value v h)) [
      | inr no_one ↦ inl (or_left (lit_value v (opposite h)) (is_true v (barred hs ls us)) (value_opposite v h ∙ ap not no_one))
      | inl may ↦ elim (barred_cases v hs ls ts us tell.1.1 (omega arith)) [
        | inl later ↦ inl (or_right (lit_value v (opposite h)) (is_true v (barred hs ls us)) later)
        | inr rest ↦ inr (true ∷ rest.0, ((one_of t).0 (sym (tell.0 tt) ∙ may), rest.1), (refl, rest.2))
      ]
    ]
barred_cases v (h ∷ hs) (l ∷ ls) (t ∷ ts) (Unknown ∷ us) tell len =
    elim (barred_cases v hs ls ts us tell.1.1 (omega arith)) [
      | inl later ↦ inl later
      | inr rest ↦ let bit = any_bit t in inr (bit.0 ∷ rest.0, (bit.1, rest.1), (tt, rest.2))
    ]

within_unknown : (t : Tern) → tern_within t Unknown ≡ true
within_unknown Zero = refl
within_unknown One = refl
within_unknown Unknown = refl

only_zero : (t : Tern) → may_one t ≡ false → tern_within t Zero ≡ true
only_zero Zero e = refl
only_zero One e = absurd cc
only_zero Unknown e = absurd cc

only_one : (t : Tern) → may_zero t ≡ false → tern_within t One ≡ true
only_one Zero e = absurd cc
only_one One e = refl
only_one Unknown e = absurd cc

-- a fixed place may escape the cube, or all completions lie in it
escapes_cases : (v : Key → Bool) (hs ls : List KeyLit) (ts us : List Tern) → RailsTell AnyKey v hs ls ts → length us ≡ length ts
    → (is_true v (escapes hs ls us) ≡ true) ⊎ (lies_in ts us ≡ true)
escapes_cases v [] [] [] [] tell len = inr refl
escapes_cases v [] [] [] (u ∷ us) tell len = absurd (omega arith)
escapes_cases v [] [] (t ∷ ts) us tell len = absurd tell
escapes_cases v [] (l ∷ ls) ts us tell len = absurd tell
escapes_cases v (h ∷ hs) [] ts us tell len = absurd tell
escapes_cases v (h ∷ hs) (l ∷ ls) [] us tell len = absurd tell
escapes_cases v (h ∷ hs) (l ∷ ls) (t ∷ ts) [] tell len = absurd (omega arith)
escapes_cases v (h ∷ hs) (l ∷ ls) (t ∷ ts) (Zero ∷ us) tell len =
    elim (cases_Bool (lit_value v h)) [
      | inl may ↦ inl (or_left (lit_value v h) (is_true v (escapes hs ls us)) may)
      | inr none_here ↦ elim (escapes_cases v hs ls ts us tell.1.1 (omega arith)) [
        | inl later ↦ inl (or_right (lit_value v h) (is_true v (escapes hs ls us)) later)
        | inr rest ↦ inr (and_from (tern_within t Zero) (lies_in ts us) (only_zero t (sym (tell.0 tt) ∙ none_here)) rest)
      ]
    ]
escapes_cases v (h ∷ hs) (l ∷ ls) (t ∷ ts) (One ∷ us) tell len =
    elim (cases_Bool (lit_value v l)) [
      | inl may ↦ inl (or_left (lit_value v l) (is_true v (escapes hs ls us)) may)
      | inr none_here ↦ elim (escapes_cases v hs ls ts us tell.1.1 (omega arith)) [
        | inl later ↦ inl (or_right (lit_value v l) (is_true v (escapes hs ls us)) later)
        | inr rest ↦ inr (and_from (tern_within t One) (lies_in ts us) (only_one t (sym (tell.1.0 tt) ∙ none_here)) rest)
      ]
    ]
escapes_cases v (h ∷ hs) (l ∷ ls) (t ∷ ts) (Unknown ∷ us) tell len =
    elim (escapes_cases v hs ls ts us tell.1.1 (omega arith)) [
      | inl later ↦ inl later
      | inr rest ↦ inr (and_from (tern_within t Unknown) (lies_in ts us) (within_unknown t) rest)
    ]

-- rails of the output that say what the function may be make all clauses true
pub hazard_true : (v : Key → Bool) (cell : (ℕ → Bool) → Bool) (hs ls : List KeyLit) (high low : KeyLit) (rows cubes : List Cube) (ts : List Tern)
    → Covers cell (length ts) rows → Settles cell (length ts) cubes → RailsTell AnyKey v hs ls ts
    → ((bits : List Bool) → Inside bits ts → lit_value v (may_be (on_list cell bits) high low) ≡ true)
    → ((b : Bool) → ((bits : List Bool) → Inside bits ts → on_list cell bits ≡ b) → lit_value v (may_be (not b) high low) ≡ false)
    → AllTrue v (hazard_clauses hs ls high low rows cubes)
hazard_true v cell hs ls high low rows cubes ts covers settles tell may must =
    all_true v (hazard_clauses hs ls high low rows cubes)
    (λ c has.
    elim (In-cases c (map (may_clause hs ls high low) rows) (map (must_clause hs ls high low) cubes) has) [
      | inl first ↦
          let of = from_map (may_clause hs ls high low) c rows first in
          let cube = of.0 in
          let out = may_be cube.value high low in
          let split = value_push v (barred hs ls cube.fixed) out in
          subst (λ d. is_true v d ≡ true) of.2
          (elim (barred_cases v hs ls ts cube.fixed tell (covers.lens cube of.1)) [
            | inl some ↦ split ∙ or_left (is_true v (barred hs ls cube.fixed)) (lit_value v out) some
            | inr hit ↦ split ∙ or_right (is_true v (barred hs ls cube.fixed)) (lit_value v out)
                (subst (λ b. lit_value v (may_be b high low) ≡ true) (covers.right cube hit.0 of.1 hit.2) (may hit.0 hit.1))
          ])
      | inr second ↦
          let of = from_map (must_clause hs ls high low) c cubes second in
          let cube = of.0 in
          let out = may_be (not cube.value) high low in
          let split = value_push v (escapes hs ls cube.fixed) (opposite out) in
          subst (λ d. is_true v d ≡ true) of.2
          (elim (escapes_cases v hs ls ts cube.fixed tell (settles.lens cube of.1)) [
            | inl some ↦ split ∙ or_left (is_true v (escapes hs ls cube.fixed)) (lit_value v (opposite out)) some
            | inr all_in ↦
                split ∙ or_right (is_true v (escapes hs ls cube.fixed)) (lit_value v (opposite out))
                (value_opposite v out ∙ ap not (must cube.value (λ bits in'. settles.right cube bits of.1
                (Rattle.query_model.proofs.Prime.inside_within bits ts cube.fixed all_in in'))))
          ])
    ])
