-- The table of the places of points, point by point.
use Rattle.std.proofs.Common.{◌≡◌, ℕ, ◌+◌, ◌<◌, ◌≤◌, List, length, set, Option, Some, None, sym, ◌∙◌, ap, arith, inl, inr, get_or-set_other}
use Rattle.std.proofs.Common.{get_or-set_same, length-set, subst, below_more}
use Rattle.std.specs.Prelude.{slice_get}
use Rattle.std.proofs.lemmas.Bool.{cases_eq}
use Rattle.std.proofs.lemmas.Option.{slice_get_within}
use Rattle.cnf_encode.specs.Placed.{StandOnce, ArePlaces, place_of}

-- the table has the places of the first k points, and nothing else
pub record PlacesDone (points : List ℕ) (size k : ℕ) (table : List (Option ℕ)) : Type 0 where
  pub len : length table ≡ size
  pub all : (j : ℕ) → j < k → (p : ℕ) → slice_get points j ≡ Some p → place_of table p ≡ Some j
  pub only : (p j : ℕ) → place_of table p ≡ Some j → slice_get points j ≡ Some p

-- one more point
pub places_more : (points : List ℕ) (size k p : ℕ) (table : List (Option ℕ)) → StandOnce points → p < size → slice_get points k ≡ Some p
    → PlacesDone points size k table → PlacesDone points size (k + 1) (set table p (Some k))
places_more points size k p table once low at done =
    record {
      len = length-set table p (Some k) ∙ done.len;
      all =
          below_more (λ j. (q : ℕ) → slice_get points j ≡ Some q → place_of (set table p (Some k)) q ≡ Some j) k
          (λ j lt q there. get_or-set_other table p q (Some k) None (λ same. apart j lt q there same) ∙ done.all j lt q there)
          (λ q there.
          let same : p ≡ q = cc in
          subst (λ (n : ℕ). place_of (set table p (Some k)) n ≡ Some k) same (get_or-set_same table p (Some k) None (omega (arith, done.len))));
      only = λ q j found. elim (cases_eq q p) [
        | inl same ↦
            let now : place_of (set table p (Some k)) q ≡ Some k = subst (λ (n : ℕ). place_of (set table p (Some k)) n ≡ Some k) (sym same)
            (get_or-set_same table p (Some k) None (omega (arith, done.len))) in
            let e : k ≡ j = cc in
            cc
        | inr other ↦ done.only q j (sym (get_or-set_other table p q (Some k) None other) ∙ found)
      ];
    }
  where
    apart : (j : ℕ) → j < k → (q : ℕ) → slice_get points j ≡ Some q → q ≡ p → ⊥
    apart j lt q there same = let e = once j k p (there ∙ ap Some same) at in omega arith

-- all points
pub places_all : (points : List ℕ) (size k : ℕ) (table : List (Option ℕ)) → length points ≤ k → PlacesDone points size k table → ArePlaces points size table
places_all points size k table end done =
    record {
      len = done.len;
      all = λ j p there. let lt = slice_get_within points j p there in done.all j (omega arith) p there;
      only = done.only;
    }
