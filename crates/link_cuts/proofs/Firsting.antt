-- Where nets first stand in a list, item by item.
use Rattle.std.proofs.Common.{◌≡◌, ◌≢◌, ℕ, ◌+◌, ◌<◌, ◌≤◌, ◌⊎◌, Bool, true, false, cond, eqb, List, [], ◌∷◌, ◌++◌, length, take}
use Rattle.std.proofs.Common.{refl, ap, sym, ◌∙◌, subst, arith, inl, inr, get_or, Some}
use Rattle.std.specs.Prelude.{slice_get}
use Rattle.std.specs.List.{position_or_len}
use Rattle.std.proofs.Math.ListN.{set}
use Rattle.std.proofs.lemmas.Bool.{cases_eq, eq-eqb, ne_eqb, cond-true, cond-false}
use Rattle.std.proofs.lemmas.List.{get_or-set_same, get_or-set_other, length-set, length-take-le, take_all}
use Rattle.std.proofs.lemmas.List.Folds.{position_or_len_push}
use Rattle.std.proofs.lemmas.Option.{slice_get_within}
use Rattle.link_items.proofs.Listing.{take_next}
use Rattle.link_cuts.specs.Firsts.{IsFirstRow}

-- where a net first stands among the first items
abbrev first_in : List ℕ → ℕ → ℕ → ℕ
first_in list k net = position_or_len (eqb net) (take k list)

-- the value is that place, or the list's length where the net stands nowhere among them
abbrev IsFirstTo : List ℕ → ℕ → ℕ → ℕ → Type 0
IsFirstTo list k net value = ((value ≡ length list) × (first_in list k net ≡ k)) ⊎ ((value ≡ first_in list k net) × (value < k))

pub record AreFirstTo (nets : ℕ) (list : List ℕ) (k : ℕ) (row : List ℕ) : Type 0 where
  pub len : length row ≡ nets
  pub each : (net : ℕ) → net < nets → IsFirstTo list k net (get_or row net (length list))

pub first_none : (nets : ℕ) (list row : List ℕ) → length row ≡ nets → ((place : ℕ) → get_or row place (length list) ≡ length list)
    → AreFirstTo nets list 0 row
first_none nets list row len each = record { len = len; each = λ net lt. inl (each net, refl) }

first_next : (list : List ℕ) (k net y : ℕ) → slice_get list k ≡ Some y
    → first_in list (k + 1) net ≡ cond (eqb (first_in list k net) k) (k + cond (eqb net y) 0 1) (first_in list k net)
first_next list k net y at =
    let within : k < length list = slice_get_within list k y at in
    let len : length (take k list) ≡ k = length-take-le k list (omega arith) in
    ap (position_or_len (eqb net)) (take_next list k y at) ∙ position_or_len_push (eqb net) (take k list) y
    ∙ ap (λ (n : ℕ). cond (eqb (first_in list k net) n) (n + cond (eqb net y) 0 1) (first_in list k net)) len

-- a net keeps its place
first_kept : (list : List ℕ) (k net y value : ℕ) → slice_get list k ≡ Some y → (value ≡ length list → net ≡ y → ⊥) → IsFirstTo list k net value
    → IsFirstTo list (k + 1) net value
first_kept list k net y value at other (inl (none, is)) =
    let next : first_in list (k + 1) net ≡ k + cond (eqb net y) 0 1 = first_next list k net y at
    ∙ cond-true (eqb (first_in list k net) k) (k + cond (eqb net y) 0 1) (first_in list k net) (eq-eqb (first_in list k net) k is) in
    let miss : ◌≡◌ {A = ℕ} (cond (eqb net y) 0 1) 1 = cond-false (eqb net y) 0 1 (ne_eqb net y (other none)) in
    inl (none, next ∙ ap (λ (n : ℕ). k + n) miss)
first_kept list k net y value at other (inr (is, lt)) =
    let apart : first_in list k net ≡ k → ⊥ = λ e. omega (arith, e, is, lt) in
    let next : first_in list (k + 1) net ≡ first_in list k net = first_next list k net y at ∙ cond-false (eqb (first_in list k net) k)
    (k + cond (eqb net y) 0 1) (first_in list k net) (ne_eqb (first_in list k net) k apart) in
    inr (is ∙ sym next, omega (arith, lt))

-- a net that stood nowhere stands here
first_here : (list : List ℕ) (k net value : ℕ) → slice_get list k ≡ Some net → value ≡ length list → IsFirstTo list k net value → IsFirstTo list (k + 1) net k
first_here list k net value at none (inl (same, is)) =
    let next : first_in list (k + 1) net ≡ k + cond (eqb net net) 0 1 = first_next list k net net at
    ∙ cond-true (eqb (first_in list k net) k) (k + cond (eqb net net) 0 1) (first_in list k net) (eq-eqb (first_in list k net) k is) in
    let hit : ◌≡◌ {A = ℕ} (cond (eqb net net) 0 1) 0 = cond-true (eqb net net) 0 1 (eq-eqb net net refl) in
    inr (omega (arith, next, hit), omega arith)
first_here list k net value at none (inr (is, lt)) =
    let within : k < length list = slice_get_within list k net at in absurd (omega (arith, none, lt, within))

pub first_put : (nets : ℕ) (list : List ℕ) (k y : ℕ) (row : List ℕ) → slice_get list k ≡ Some y → y < length row → get_or row y (length list) ≡ length list
    → AreFirstTo nets list k row → AreFirstTo nets list (k + 1) (set row y k)
first_put nets list k y row at within none to = record {
  len = length-set row y k ∙ to.len;
  each = λ net lt.
      elim (cases_eq net y) [
        | inl same ↦
            let here : IsFirstTo list (k + 1) y k = first_here list k y (get_or row y (length list)) at none (to.each y (omega (arith, same, lt))) in
            let value : k ≡ get_or (set row y k) y (length list) = sym (get_or-set_same row y k (length list) within) in
            subst (λ (n : ℕ). IsFirstTo list (k + 1) n (get_or (set row y k) n (length list))) (sym same)
            (subst (IsFirstTo list (k + 1) y) value here)
        | inr other ↦
            subst (IsFirstTo list (k + 1) net) (sym (get_or-set_other row y net k (length list) other))
            (first_kept list k net y (get_or row net (length list)) at (λ e same. other same) (to.each net lt))
      ];
}

pub first_left : (nets : ℕ) (list : List ℕ) (k y : ℕ) (row : List ℕ) → slice_get list k ≡ Some y
    → ((y < length row) × (get_or row y (length list) ≡ length list) → ⊥) → AreFirstTo nets list k row → AreFirstTo nets list (k + 1) row
first_left nets list k y row at not_none to = record {
  len = to.len;
  each = λ net lt.
      first_kept list k net y (get_or row net (length list)) at
      (λ e same. not_none (omega (arith, same, lt, to.len), subst (λ (n : ℕ). get_or row n (length list) ≡ length list) same e)) (to.each net lt);
}

pub first_all : (nets : ℕ) (list : List ℕ) (k : ℕ) (row : List ℕ) → length list ≤ k → k ≤ length list → AreFirstTo nets list k row → IsFirstRow nets list row
first_all nets list k row all within to =
    let whole : take k list ≡ list = take_all k list all in
    record {
      len = to.len;
      each = λ net lt. elim (to.each net lt) [
        | inl (none, is) ↦ none ∙ (let e : length list ≡ k = omega arith in e) ∙ sym is ∙ ap (position_or_len (eqb net)) whole
        | inr (is, lt) ↦ is ∙ ap (position_or_len (eqb net)) whole
      ];
    }
