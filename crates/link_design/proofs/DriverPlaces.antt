-- Numbers of nets by their drivers.
use Rattle.std.proofs.Common.{◌≡◌, ◌≢◌, ℕ, zero, suc, ◌+◌, ◌<◌, ◌≤◌, ◌==◌, nat_eq, Bool, true, false, List, [], ◌∷◌, length, set, refl}
use Rattle.std.proofs.Common.{ap, subst, sym, ◌∙◌, arith, inl, inr, length-set}
use Rattle.std.specs.Prelude.{Some, slice_get, count_by, ◌⊎◌}
use Rattle.std.proofs.lemmas.Bool.{cases_eq, cases_lt, eqb-true}
use Rattle.std.proofs.lemmas.Bool.Decides.{nat_tests}
use Rattle.std.proofs.lemmas.Option.{slice_get_within}
use Rattle.graph_order.proofs.Marked.{count_cons, counted, not_counted, at_contains, counted_contains}
use Rattle.graph_order.proofs.Acyclic.{one_place}
use Rattle.link_defs.specs.Designs.{number_by}
use Rattle.link_design.specs.Rows.{IsDriverRow, IsRowTo}

-- the first driver has the number 0
number_here : (n x : ℕ) (xs : List ℕ) → nat_eq n x ≡ true → number_by (x ∷ xs) n ≡ 0
number_here n x xs e = rw e refl

-- any other is one further than among the rest
number_later : (n x : ℕ) (xs : List ℕ) → nat_eq n x ≡ false → number_by (x ∷ xs) n ≡ suc (number_by xs n)
number_later n x xs e = rw e (omega arith)

-- the place of a net's driver, if it has one
driven_or : (n x : ℕ) (xs : List ℕ) (b : Bool) → nat_eq n x ≡ b → (slice_get xs (number_by xs n) ≡ Some n) ⊎ (number_by xs n ≡ length xs)
    → (slice_get (x ∷ xs) (number_by (x ∷ xs) n) ≡ Some n) ⊎ (number_by (x ∷ xs) n ≡ length (x ∷ xs))
driven_or n x xs true e further = inl (ap (λ (k : ℕ). slice_get (x ∷ xs) k) (number_here n x xs e) ∙ ap (λ (y : ℕ). Some y) (sym (eqb-true n x e)))
driven_or n x xs false e (inl there) = inl (ap (λ (k : ℕ). slice_get (x ∷ xs) k) (number_later n x xs e) ∙ there)
driven_or n x xs false e (inr none) = inr (number_later n x xs e ∙ ap suc none)

-- a net's number is the place of a driver of it, or it has none
pub number_cases : (xs : List ℕ) (n : ℕ) → (slice_get xs (number_by xs n) ≡ Some n) ⊎ (number_by xs n ≡ length xs)
number_cases [] n = inr refl
number_cases (x ∷ xs) n = driven_or n x xs (nat_eq n x) refl (number_cases xs n)

-- a driver that is the first, or among the rest, has a number below their count
within_here : (n x : ℕ) (xs : List ℕ) (b : Bool) → nat_eq n x ≡ b → (b ≡ false → number_by xs n < length xs) → number_by (x ∷ xs) n < length (x ∷ xs)
within_here n x xs true e further = omega (arith, number_here n x xs e)
within_here n x xs false e further = omega (arith, number_later n x xs e, further refl)

-- numbers that a test tells apart differ
not_same : (n x : ℕ) → nat_eq n x ≡ false → x ≡ n → ⊥
not_same n x e same = grind (arith, nat_tests)

-- a net that has a driver has a number below their count
pub number_within : (xs : List ℕ) (n k : ℕ) → slice_get xs k ≡ Some n → number_by xs n < length xs
number_within [] n k at = cc
number_within (x ∷ xs) n zero at = within_here n x xs (nat_eq n x) refl (λ e. absurd (not_same n x e (cc)))
number_within (x ∷ xs) n (suc k) at = within_here n x xs (nat_eq n x) refl (λ e. number_within xs n k at)

-- at such a number stands a driver of it
pub number_at : (xs : List ℕ) (n : ℕ) → number_by xs n < length xs → slice_get xs (number_by xs n) ≡ Some n
number_at xs n lt = elim (number_cases xs n) [ inl there ↦ there | inr none ↦ absurd (omega arith) ]

-- where each net has one driver at most, the place of a net's driver is its number
pub number_is : (xs : List ℕ) (n k : ℕ) → count_by (λ m. m == n) xs ≤ 1 → slice_get xs k ≡ Some n → number_by xs n ≡ k
number_is xs n k once at = one_place n xs (number_by xs n) k once (number_at xs n (number_within xs n k at)) at

-- what stands at a place is counted
pub counted_at : (xs : List ℕ) (n k : ℕ) → slice_get xs k ≡ Some n → 1 ≤ count_by (λ m. m == n) xs
counted_at [] n k at = cc
counted_at (x ∷ xs) n zero at = let same : x ≡ n = cc in omega (arith, count_cons (λ m. m == n) x xs, counted n x same)
counted_at (x ∷ xs) n (suc k) at = omega (arith, count_cons (λ m. m == n) x xs, counted_at xs n k at)

-- a net at two places is counted twice
pub counted_twice : (xs : List ℕ) (n i j : ℕ) → i < j → slice_get xs i ≡ Some n → slice_get xs j ≡ Some n → 1 < count_by (λ m. m == n) xs
counted_twice [] n i j lt a b = cc
counted_twice (x ∷ xs) n i zero lt a b = absurd (omega arith)
counted_twice (x ∷ xs) n zero (suc j) lt a b = let same : x ≡ n = cc in omega (arith, count_cons (λ m. m == n) x xs, counted n x same, counted_at xs n j b)
counted_twice (x ∷ xs) n (suc i) (suc j) lt a b = omega (arith, count_cons (λ m. m == n) x xs, counted_twice xs n i j (omega arith) a b)

-- and one at no two places at most once
pub counted_once : (xs : List ℕ) (n : ℕ) → ((i j : ℕ) → i < j → slice_get xs i ≡ Some n → slice_get xs j ≡ Some n → ⊥) → count_by (λ m. m == n) xs ≤ 1
counted_once [] n apart = omega arith
counted_once (x ∷ xs) n apart =
    let rest = counted_once xs n (λ i j lt a b. apart (suc i) (suc j) (omega arith) a b) in
    elim (cases_eq x n) [
      | inl same ↦
          let none : count_by (λ m. m == n) xs ≡ 0 = elim (cases_lt 0 (count_by (λ m. m == n) xs)) [
            | inl some ↦ let (k, at) = at_contains xs n (counted_contains n xs (omega arith)) in
                absurd (apart 0 (suc k) (omega arith) (ap (λ (y : ℕ). Some y) same) at)
            | inr le ↦ omega arith
          ] in
          omega (arith, count_cons (λ m. m == n) x xs, counted n x same)
      | inr differs ↦ omega (arith, count_cons (λ m. m == n) x xs, not_counted n x differs)
    ]

-- a row in which nothing stands
pub row_none : (drivers row : List ℕ) (nets : ℕ) → length row ≡ nets → ((net j : ℕ) → slice_get row net ≡ Some j → j ≡ length drivers)
    → IsRowTo drivers nets 0 row
row_none drivers row nets len none = record {
  len = len;
  put = λ j net lt at. absurd (omega arith);
  from = λ net j at lt. absurd (let e = none net j at in omega arith);
  most = λ net j at. let e = none net j at in omega arith;
}

-- a place that was written has the value
at_set : (xs : List ℕ) (i v : ℕ) → i < length xs → slice_get (set xs i v) i ≡ Some v
at_set [] i v lt = absurd (omega arith)
at_set (x ∷ xs) zero v lt = refl
at_set (x ∷ xs) (suc i) v lt = at_set xs i v (omega arith)

-- another place has what it had
at_other : (xs : List ℕ) (i j v x : ℕ) → j ≢ i → slice_get (set xs i v) j ≡ Some x → slice_get xs j ≡ Some x
at_other [] i j v x apart at = at
at_other (y ∷ ys) zero zero v x apart at = absurd (apart refl)
at_other (y ∷ ys) zero (suc j) v x apart at = at
at_other (y ∷ ys) (suc i) zero v x apart at = at
at_other (y ∷ ys) (suc i) (suc j) v x apart at = at_other ys i j v x (λ e. apart (ap suc e)) at

-- and keeps it
at_kept : (xs : List ℕ) (i j v x : ℕ) → j ≢ i → slice_get xs j ≡ Some x → slice_get (set xs i v) j ≡ Some x
at_kept [] i j v x apart at = at
at_kept (y ∷ ys) zero zero v x apart at = absurd (apart refl)
at_kept (y ∷ ys) zero (suc j) v x apart at = at
at_kept (y ∷ ys) (suc i) zero v x apart at = at
at_kept (y ∷ ys) (suc i) (suc j) v x apart at = at_kept ys i j v x (λ e. apart (ap suc e)) at

-- one more driver, of a net that has none yet
pub row_more : (drivers : List ℕ) (nets k : ℕ) (row : List ℕ) (net old : ℕ) → slice_get drivers k ≡ Some net → slice_get row net ≡ Some old
    → length drivers ≤ old → IsRowTo drivers nets k row → IsRowTo drivers nets (k + 1) (set row net k)
row_more drivers nets k row net old here at_old free done =
    let inside : net < length row = slice_get_within row net old at_old in
    let now : slice_get (set row net k) net ≡ Some k = at_set row net k inside in
    let below : k < length drivers = slice_get_within drivers k net here in
    record {
      len = length-set row net k ∙ done.len;
      put = λ j n lt at. elim (cases_eq j k) [
        | inl same ↦ let is : n ≡ net = (let a : slice_get drivers k ≡ Some n = subst (λ (x : ℕ). slice_get drivers x ≡ Some n) same at in cc) in
            rw (is, same) now
        | inr differs ↦
            let was = done.put j n (omega arith) at in
            at_kept row net n k j (λ e. let clash : slice_get row net ≡ Some j = subst (λ (x : ℕ). slice_get row x ≡ Some j) e was in
            let equal : j ≡ old = cc in let less = slice_get_within drivers j n at in absurd (omega arith)) was
      ];
      from = λ n j at lt. elim (cases_eq n net) [
        | inl same ↦
            let a : slice_get (set row net k) net ≡ Some j = subst (λ (x : ℕ). slice_get (set row net k) x ≡ Some j) same at in
            let is : j ≡ k = cc in
            rw (is, same) (omega arith, here)
        | inr differs ↦ let (less, there) = done.from n j (at_other row net n k j differs at) lt in (omega arith, there)
      ];
      most = λ n j at. elim (cases_eq n net) [
        | inl same ↦
            let a : slice_get (set row net k) net ≡ Some j = subst (λ (x : ℕ). slice_get (set row net k) x ≡ Some j) same at in
            let is : j ≡ k = cc in
            omega arith
        | inr differs ↦ done.most n j (at_other row net n k j differs at)
      ];
    }

-- all drivers are in the row
pub row_once : (drivers row : List ℕ) (nets : ℕ) → IsRowTo drivers nets (length drivers) row → (net : ℕ) → count_by (λ m. m == net) drivers ≤ 1
row_once drivers row nets done net = counted_once drivers net (λ i j lt a b.
    let less = slice_get_within drivers j net b in
    let first = done.put i net (omega arith) a in
    let second = done.put j net (omega arith) b in
    let same : i ≡ j = cc in omega arith)

-- a place below the length has an item
item_of : (xs : List ℕ) (i : ℕ) → i < length xs → (x : ℕ) × (slice_get xs i ≡ Some x)
item_of [] i lt = absurd (omega arith)
item_of (x ∷ xs) zero lt = (x, refl)
item_of (x ∷ xs) (suc i) lt = item_of xs i (omega arith)

-- a row with all drivers is the row of the drivers
pub row_is : (drivers row : List ℕ) (nets : ℕ) → IsRowTo drivers nets (length drivers) row → IsDriverRow drivers nets row
row_is drivers row nets done = record {
  len = done.len;
  at = λ net lt.
      let (j, at) = item_of row net (omega (arith, done.len)) in
      let most = done.most net j at in
      elim (cases_lt j (length drivers)) [
        | inl less ↦ let (below, there) = done.from net j at less in
            let is = number_is drivers net j (row_once drivers row nets done net) there in at ∙ ap (λ (x : ℕ). Some x) (sym is)
        | inr past ↦ elim (number_cases drivers net) [
          | inl driven ↦
              let less = slice_get_within drivers (number_by drivers net) net driven in
              let here = done.put (number_by drivers net) net less driven in here
          | inr none ↦ let is : j ≡ number_by drivers net = omega (arith, none) in at ∙ ap (λ (x : ℕ). Some x) is
        ]
      ];
}
