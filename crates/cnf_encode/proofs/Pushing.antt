-- Rows of places, key by key.
use Rattle.std.proofs.Common.{◌≡◌, ℕ, suc, ◌+◌, ◌<◌, Bool, true, false, List, [], ◌∷◌, ◌++◌, length, map, set, take, Option, Some, None, refl, sym}
use Rattle.std.proofs.Common.{◌∙◌, ap, arith, inl, inr, ◌⊎◌, get_or-set_other, get_or-set_same, length-set, below_more, subst, get_or}
use Rattle.std.specs.Prelude.{slice_get, Contains, ◌==◌, ◌&&◌, ◌||◌}
use Rattle.std.proofs.lemmas.Bool.{cases_eq, cases_lt, eqb-true, and_parts}
use Rattle.std.proofs.lemmas.Option.{slice_get_within, slice_get-get_or, get_or_from_slice_get}
use Rattle.std.proofs.lemmas.List.{get_or-map, get_or_append_left, get_or_push, map-set, set_past, take_more}
use Rattle.std.proofs.lemmas.List.Elements.{Contains-push, Contains-push_cases, Contains-append_left, Contains-get_or}
use Rattle.query_model.specs.declared.keys.Key.{Key}
use Rattle.frame_unroll.specs.Framed.{key_of}
use Rattle.cnf_encode.specs.Coned.{has_point, AreRows}
use Rattle.cnf_encode.specs.Placed.{ArePlaces, ArePushed, IsInOrder, AreInOrder, place_of, with_place}

abbrev row : List (List ℕ) → ℕ → List ℕ
row rows c = get_or rows c []

-- a row is as before, or it is the one that has grown
row-grown : (rows : List (List ℕ)) (c place e : ℕ) → (row (set rows c (row rows c ++ place ∷ [])) e ≡ row rows e) ⊎
    ((e ≡ c) × (row (set rows c (row rows c ++ place ∷ [])) e ≡ row rows e ++ place ∷ []))
row-grown rows c place e = elim (cases_eq e c) [
  | inr other ↦ inl (get_or-set_other rows c e (row rows c ++ place ∷ []) [] other)
  | inl same ↦ elim (cases_lt c (length rows)) [
    | inl low ↦ inr (
      same,
      subst (λ (n : ℕ). row (set rows c (row rows c ++ place ∷ [])) n ≡ row rows n ++ place ∷ []) (sym same)
          (get_or-set_same rows c (row rows c ++ place ∷ []) [] low),
    )
    | inr past ↦ inl (ap (λ (rs : List (List ℕ)). row rs e) (set_past rows c (row rows c ++ place ∷ []) past))
  ]
]

grown : (keys : List Key) (k : Key) (table : List (Option ℕ)) (cycles : ℕ) (rows : List (List ℕ)) (place : ℕ) → place_of table k.point ≡ Some place
    → ArePushed keys table cycles rows → ArePushed (keys ++ k ∷ []) table cycles (set rows k.cycle (row rows k.cycle ++ place ∷ []))
grown keys k table cycles rows place at done =
    record {
      count = length-set rows k.cycle (row rows k.cycle ++ place ∷ []) ∙ done.count;
      only = λ c other has. elim (row-grown rows k.cycle place c) [
        | inl same ↦ done.only c other (subst (λ (ns : List ℕ). Contains ns other) same has)
        | inr more ↦ elim (Contains-push_cases (row rows c) place other (subst (λ (ns : List ℕ). Contains ns other) more.1 has)) [
          | inl before ↦ done.only c other before
          | inr new ↦ (k.point, at ∙ ap Some new)
        ]
      ];
      all = λ j other has early there. elim (Contains-push_cases keys k j has) [
        | inl before ↦ kept j.cycle other (done.all j other before early there)
        | inr new ↦ own j other (sym new) early there
      ];
    }
  where
    after : List (List ℕ)
    after = set rows k.cycle (row rows k.cycle ++ place ∷ [])

    kept : (c other : ℕ) → Contains (row rows c) other → Contains (row after c) other
    kept c other has = elim (row-grown rows k.cycle place c) [
      | inl same ↦ subst (λ (ns : List ℕ). Contains ns other) (sym same) has
      | inr more ↦ subst (λ (ns : List ℕ). Contains ns other) (sym more.1) (Contains-append_left (row rows c) (place ∷ []) other has)
    ]

    own : (j : Key) (other : ℕ) → j ≡ k → j.cycle < cycles → place_of table j.point ≡ Some other → Contains (row after j.cycle) other
    own j other same early there =
        let cycle : j.cycle ≡ k.cycle = ap (λ (x : Key). x.cycle) same in
        let point : place_of table j.point ≡ place_of table k.point = ap (λ (x : Key). place_of table x.point) same in
        let e : place ≡ other = cc in
        let now : row after k.cycle ≡ row rows k.cycle ++ place ∷ [] = get_or-set_same rows k.cycle (row rows k.cycle ++ place ∷ []) []
        (omega (arith, done.count)) in
        subst (λ (c : ℕ). Contains (row after c) other) (sym cycle)
        (subst (λ (n : ℕ). Contains (row after k.cycle) n) e (subst (λ (ns : List ℕ). Contains ns place) (sym now) (Contains-push (row rows k.cycle) place)))

pushed : (keys : List Key) (k : Key) (table : List (Option ℕ)) (cycles : ℕ) (rows : List (List ℕ)) (o : Option ℕ) → place_of table k.point ≡ o
    → ArePushed keys table cycles rows → ArePushed (keys ++ k ∷ []) table cycles (with_place rows k.cycle o)
pushed keys k table cycles rows (Some place) at done = grown keys k table cycles rows place at done
pushed keys k table cycles rows None at done =
    record {
      count = done.count;
      only = done.only;
      all = λ j place has early there. elim (Contains-push_cases keys k j has) [
        | inl before ↦ done.all j place before early there
        | inr same ↦ let e : place_of table k.point ≡ place_of table j.point = ap (λ (x : Key). place_of table x.point) same in cc
      ];
    }

-- the row of a cycle, with a place pushed
pub pushed_at : {V : Type 0} (items : V → List ℕ) (rows : List V) (c place : ℕ) (o : Option ℕ) (before after : V) → c < length rows
    → before ≡ get_or rows c before → items after ≡ items before ++ place ∷ [] → o ≡ Some place → map items (set rows c after) ≡ with_place
    (map items rows) c o
pushed_at items rows c place o before after low at grows is =
    let there : get_or (map items rows) c [] ≡ items before = get_or-map items rows c before [] low ∙ ap items (sym at) in
    rw is (map-set items rows c after ∙ ap (λ (ns : List ℕ). set (map items rows) c ns) (grows ∙ ap (λ (ns : List ℕ). ns ++ place ∷ []) (sym there)))

-- one more key
pub pushed_more : (keys : List Key) (n : ℕ) (k : Key) (table : List (Option ℕ)) (cycles : ℕ) (rows : List (List ℕ)) → slice_get keys n ≡ Some k
    → ArePushed (take n keys) table cycles rows → ArePushed (take (n + 1) keys) table cycles (with_place rows k.cycle (place_of table k.point))
pushed_more keys n k table cycles rows at done =
    let e : take (n + 1) keys ≡ take n keys ++ k ∷ [] = take_more keys n k (slice_get_within keys n k at) ∙ ap (λ (x : Key). take n keys ++ x ∷ [])
    (get_or_from_slice_get keys n k k at) in
    subst (λ (ks : List Key). ArePushed ks table cycles (with_place rows k.cycle (place_of table k.point))) (sym e)
    (pushed (take n keys) k table cycles rows (place_of table k.point) refl done)

-- the key of a number from 1 on, by its place
pub numbered_at : (keys : List Key) (n : ℕ) → key_of keys (n + 1) ≡ slice_get keys n
numbered_at keys n = let e : n + 1 ≡ suc n = omega arith in ap (key_of keys) e

pub numbered_there : (keys : List Key) (n : ℕ) → n < length keys → key_of keys (n + 1) ≡ None → ⊥
numbered_there [] n lt none = omega arith
numbered_there (k ∷ keys) n lt none = let at = slice_get-get_or (k ∷ keys) n k lt in let e = numbered_at (k ∷ keys) n in cc

-- one more row in order
pub ordered_more : (found rows : List (List ℕ)) (n : ℕ) (next : List ℕ) → length rows ≡ n → IsInOrder (row found n) next
    → ((c : ℕ) → c < n → IsInOrder (row found c) (row rows c)) → (c : ℕ) → c < n + 1 → IsInOrder (row found c) (row (rows ++ next ∷ []) c)
ordered_more found rows n next len order done =
    below_more (λ c. IsInOrder (row found c) (row (rows ++ next ∷ []) c)) n
    (λ c lt. subst (λ (ns : List ℕ). IsInOrder (row found c) ns) (sym (get_or_append_left rows (next ∷ []) [] c (omega (arith, len)))) (done c lt))
    (subst (λ (ns : List ℕ). IsInOrder (row found n) ns) (sym (get_or_push rows next [] n len)) order)

-- the key by which a point is one of the keys' in a cycle
key_about : (keys : List Key) (c p : ℕ) → has_point keys c p ≡ true → (k : Key) × Contains keys k × (k.cycle ≡ c) × (k.point ≡ p)
key_about [] c p has = absurd cc
key_about (k ∷ keys) c p has = elim (either ((k.cycle == c) && (k.point == p)) (has_point keys c p) has) [
  | inl here ↦
      let parts = and_parts (k.cycle == c) (k.point == p) here in
      (k, (0, omega arith, refl), eqb-true k.cycle c parts.0, eqb-true k.point p parts.1)
  | inr later ↦
      let more = key_about keys c p later in
      (more.0, (suc more.1.0, omega (arith, more.1.1), more.1.2), more.2, more.3)
]
  where
    either : (a b : Bool) → (a || b) ≡ true → (a ≡ true) ⊎ (b ≡ true)
    either true b e = inl refl
    either false b e = inr e

-- the rows, each in order, are what the keys are about
pub rows_cover : (keys : List Key) (points : List ℕ) (size cycles : ℕ) (table : List (Option ℕ)) (found rows : List (List ℕ))
    → ArePlaces points size table → ArePushed keys table cycles found → AreInOrder found rows → AreRows keys points cycles rows
rows_cover keys points size cycles table found rows places pushed_all ordered =
    record {
      count = ordered.count ∙ pushed_all.count;
      each = λ c early.
          let order = ordered.each c (omega (arith, pushed_all.count)) in
          record {
            ascending = order.ascending;
            below = λ i d lt.
                let at = pushed_all.only c (get_or (row rows c) i d) (order.only (get_or (row rows c) i d) (Contains-get_or (row rows c) i d lt)) in
                slice_get_within points (get_or (row rows c) i d) at.0 (places.only at.0 (get_or (row rows c) i d) at.1);
            all = λ k p there about.
                let by = key_about keys c p about in
                let point : place_of table by.0.point ≡ Some k = ap (place_of table) by.3 ∙ places.all k p there in
                order.all k (subst (λ (n : ℕ). Contains (row found n) k) by.2 (pushed_all.all by.0 k by.1 (omega (arith, by.2)) point));
          };
    }
