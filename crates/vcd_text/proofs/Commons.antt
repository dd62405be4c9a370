-- Scopes that two lists have in common at the front, one scope on.
use Rattle.std.proofs.Common.{◌≡◌, ℕ, ◌+◌, ◌<◌, ◌≤◌, true, false, List, [], ◌∷◌, length, drop, get_or, ap, ◌∙◌, refl, sym, Bool, not}
use Rattle.std.specs.Str.{bytes_eq}
use Rattle.std.proofs.lemmas.List.{drop_more, drop_all}
use Rattle.vcd_text.specs.Scopes.{common}

module _ (from to : List (List ℕ)) (k : ℕ) (in_from : k < length from) (in_to : k < length to) (a b : List ℕ) (a_is : a ≡ get_or from k a) (b_is : b ≡ get_or to k b) where
  both : common (drop k from) (drop k to) ≡ common (a ∷ drop (k + 1) from) (b ∷ drop (k + 1) to)
  both =
      ap (λ (l : List (List ℕ)). common l (drop k to)) (drop_more from k a in_from ∙ ap (λ (x : List ℕ). x ∷ drop (k + 1) from) (sym a_is))
      ∙ ap (common (a ∷ drop (k + 1) from)) (drop_more to k b in_to ∙ ap (λ (x : List ℕ). x ∷ drop (k + 1) to) (sym b_is))

  -- the next is the same
  pub common_more : bytes_eq a b ≡ true → common (drop k from) (drop k to) ≡ common (drop (k + 1) from) (drop (k + 1) to) + 1
  unfolding common
  common_more same = both ∙ rw same refl

  -- the next is another
  pub common_stops : bytes_eq a b ≡ false → common (drop k from) (drop k to) ≡ 0
  unfolding common
  common_stops other = both ∙ rw other refl

no_more : (xs : List (List ℕ)) → common xs [] ≡ 0
unfolding common
no_more [] = refl
no_more (x ∷ xs) = refl

none_left : (to : List (List ℕ)) → common [] to ≡ 0
unfolding common
none_left to = refl

-- no more in one of the lists
pub common_in_from : (from to : List (List ℕ)) (k : ℕ) → length from ≤ k → common (drop k from) (drop k to) ≡ 0
common_in_from from to k past = ap (λ (l : List (List ℕ)). common l (drop k to)) (drop_all k from past) ∙ none_left (drop k to)

pub common_in_to : (from to : List (List ℕ)) (k : ℕ) → length to ≤ k → common (drop k from) (drop k to) ≡ 0
common_in_to from to k past = ap (common (drop k from)) (drop_all k to past) ∙ no_more (drop k from)

same_of : (b : Bool) → false ≡ not b → b ≡ true
same_of true e = refl
same_of false e = cc

other_of : (b : Bool) → true ≡ not b → b ≡ false
other_of true e = cc
other_of false e = refl

-- what a test of two names tells
pub told_same : (a b : List ℕ) → false ≡ not (bytes_eq a b) → bytes_eq a b ≡ true
told_same a b = same_of (bytes_eq a b)

pub told_other : (a b : List ℕ) → true ≡ not (bytes_eq a b) → bytes_eq a b ≡ false
told_other a b = other_of (bytes_eq a b)
