-- A pattern laid on a name, byte by byte.
use Rattle.std.proofs.Common.{arith, ◌≡◌, ◌≢◌, ◌==◌, ◌<◌, ◌≤◌, ◌+◌, add-one, ℕ, zero, suc, Bool, true, false, not, ◌&&◌, List, [], ◌∷◌, length, drop}
use Rattle.std.proofs.Common.{slice_index, refl, sym, ap, ◌∙◌, subst, ◌⊎◌, inl, inr, length-drop}
use Rattle.std.proofs.lemmas.Bool.{cases_lt, cases_Bool, and_parts}
use Rattle.std.proofs.lemmas.Bool.Decides.{nat_tests}
use Rattle.std.proofs.Math.Seq.{drop-cons}
use Rattle.std.proofs.lemmas.List.{drop-drop}
use Rattle.glob.specs.Match.{star, fits, matches_whole}
use Rattle.glob.specs.Segments.{FitsFirst, IsBeforeStar, IsLaid, is_whole}
use Rattle.glob.specs.declared.globs.Laid.{Laid}
use Rattle.glob.specs.declared.globs.Laid.TheVariants.{Whole, Star, Fails}

pub is_byte : (c d : ℕ) → (c == d) ≡ true → c ≡ d
is_byte c d e = grind (arith, nat_tests)

pub is_other : (c d : ℕ) → not (c == d) ≡ true → c ≢ d
is_other c d e same = absurd (grind (arith, nat_tests))

pub no_star : (c : ℕ) → c ≢ 42 → (c == 42) ≡ false
no_star c differs = grind (arith, nat_tests)

-- a pattern and a name from their next bytes on
whole_cons : (p : ℕ) (ps name : List ℕ) → p ≢ 42 → matches_whole (p ∷ ps) name ≡ (fits p name && matches_whole ps (drop 1 name))
unfolding matches_whole
whole_cons p ps name plain = rw (no_star p plain) refl

whole_at : (p n : List ℕ) (k : ℕ) → k < length p → slice_index p k ≢ 42 → matches_whole (drop k p) (drop k n) ≡
    (fits (slice_index p k) (drop k n) && matches_whole (drop (k + 1) p) (drop (k + 1) n))
whole_at p n k here plain =
    let front : drop k p ≡ slice_index p k ∷ drop (k + 1) p = rw add-one (drop-cons p k 0 here) in
    ap (λ (l : List ℕ). matches_whole l (drop k n)) front ∙ whole_cons (slice_index p k) (drop (k + 1) p) (drop k n) plain
    ∙ ap (λ (l : List ℕ). fits (slice_index p k) (drop k n) && matches_whole (drop (k + 1) p) l) (drop-drop 1 k n)

pub whole_goes_on : (p n : List ℕ) (k : ℕ) → k < length p → slice_index p k ≢ 42 → fits (slice_index p k) (drop k n) ≡ true → matches_whole (drop k p)
    (drop k n) ≡ matches_whole (drop (k + 1) p) (drop (k + 1) n)
whole_goes_on p n k here plain fit = whole_at p n k here plain ∙ ap (λ b. b && matches_whole (drop (k + 1) p) (drop (k + 1) n)) fit

pub whole_fails : (p n : List ℕ) (k : ℕ) → k < length p → slice_index p k ≢ 42 → fits (slice_index p k) (drop k n) ≡ false → matches_whole (drop k p)
    (drop k n) ≡ false
whole_fails p n k here plain fit = whole_at p n k here plain ∙ ap (λ b. b && matches_whole (drop (k + 1) p) (drop (k + 1) n)) fit

fewer : (p n : List ℕ) (k : ℕ) → FitsFirst p n (k + 1) → FitsFirst p n k
fewer p n k first = record {
  within = omega (arith, first.within);
  long = omega (arith, first.long);
  plain = λ i low. first.plain i (omega (arith, low));
  each = λ i low. first.each i (omega (arith, low));
}

-- what fits byte by byte can be left out
pub whole_rest : (p n : List ℕ) (k : ℕ) → FitsFirst p n k → matches_whole p n ≡ matches_whole (drop k p) (drop k n)
whole_rest p n zero first = refl
whole_rest p n (suc k) first =
    let same : suc k ≡ k + 1 = omega arith in
    let now : FitsFirst p n (k + 1) = subst (FitsFirst p n) same first in
    subst (λ q. matches_whole p n ≡ matches_whole (drop q p) (drop q n)) (sym same)
    (whole_rest p n k (fewer p n k now) ∙ whole_goes_on p n k (omega (arith, now.within)) (now.plain k (omega arith)) (now.each k (omega arith)))

fits_some : (p : ℕ) (name : List ℕ) → fits p name ≡ true → 0 < length name
fits_some p [] e = absurd (elim (cases_Bool (p == 63)) [
  | inl same ↦ (let bad : false ≡ true = rw same at e in grind arith)
  | inr other ↦
      (let bad : false ≡ true = rw other at e in grind arith)
])
fits_some p (c ∷ cs) e = omega arith

pub fits_longer : (p n : List ℕ) (k : ℕ) → k < length p → slice_index p k ≢ 42 → fits (slice_index p k) (drop k n) ≡ true → FitsFirst p n k
    → FitsFirst p n (k + 1)
fits_longer p n k here plain fit first =
    let some = fits_some (slice_index p k) (drop k n) fit in
    let count = length-drop k n in
    record {
      within = omega (arith, here);
      long = omega (arith, some, count, first.long);
      plain = λ i low. elim (cases_lt i k) [
        | inl earlier ↦ first.plain i earlier
        | inr past ↦
            (let same : k ≡ i = omega (arith, low, past) in subst (λ q. slice_index p q ≢ 42) same plain)
      ];
      each = λ i low. elim (cases_lt i k) [
        | inl earlier ↦ first.each i earlier
        | inr past ↦
            (let same : k ≡ i = omega (arith, low, past) in subst (λ q. fits (slice_index p q) (drop q n) ≡ true) same fit)
      ];
    }

-- a name that matches fits byte by byte up to the first star
pub fits_from_match : (p n : List ℕ) (k : ℕ) → k ≤ length p → ((i : ℕ) → i < k → slice_index p i ≢ 42) → matches_whole p n ≡ true → FitsFirst p n k
fits_from_match p n zero within plain e = record {
  within = omega arith;
  long = omega arith;
  plain = λ i low. absurd (omega (arith, low));
  each =
      λ i low. absurd (omega (arith, low));
}
fits_from_match p n (suc k) within plain e =
    let same : k + 1 ≡ suc k = omega arith in
    let first : FitsFirst p n k = fits_from_match p n k (omega (arith, within)) (λ i low. plain i (omega (arith, low))) e in
    let here : k < length p = omega (arith, within) in
    let star_free : slice_index p k ≢ 42 = plain k (omega arith) in
    let (fit, rest) = and_parts (fits (slice_index p k) (drop k n)) (matches_whole (drop (k + 1) p) (drop (k + 1) n))
    (sym (whole_at p n k here star_free) ∙ sym (whole_rest p n k first) ∙ e) in
    subst (FitsFirst p n) same (fits_longer p n k here star_free fit first)

-- where the pattern ends
whole_ended : (p n : List ℕ) → length p ≡ 0 → matches_whole p n ≡ (length n == 0)
unfolding matches_whole
whole_ended [] [] e = refl
whole_ended [] (c ∷ cs) e = grind (arith, nat_tests)
whole_ended (p ∷ ps) n e = absurd (omega (arith, e))

pub both_ended : (p n : List ℕ) (k : ℕ) → length p ≤ k → length p ≡ length n → FitsFirst p n k → matches_whole p n ≡ true
both_ended p n k past same first =
    let left = length-drop k n in
    let gone = length-drop k p in
    let none : length (drop k p) ≡ 0 = omega (arith, gone, past) in
    let empty : length (drop k n) ≡ 0 = omega (arith, left, past, same) in
    let test : (length (drop k n) == 0) ≡ true = grind (arith, nat_tests, empty) in
    whole_rest p n k first ∙ whole_ended (drop k p) (drop k n) none ∙ test

pub one_ended : (p n : List ℕ) (k : ℕ) → length p ≤ k → length p ≢ length n → FitsFirst p n k → matches_whole p n ≡ false
one_ended p n k past differs first =
    let left = length-drop k n in
    let gone = length-drop k p in
    let none : length (drop k p) ≡ 0 = omega (arith, gone, past) in
    let some : 0 < length (drop k n) = omega (arith, left, past, differs, first.long, first.within) in
    let test : (length (drop k n) == 0) ≡ false = grind (arith, nat_tests, some) in
    whole_rest p n k first ∙ whole_ended (drop k p) (drop k n) none ∙ test

-- where a star comes next
whole_star : (p n : List ℕ) (k : ℕ) → k < length p → slice_index p k ≡ 42 → matches_whole (drop k p) n ≡ star (matches_whole (drop (k + 1) p)) n
unfolding matches_whole
whole_star p n k here is =
    let front : drop k p ≡ slice_index p k ∷ drop (k + 1) p = rw add-one (drop-cons p k 0 here) in
    let front' : drop k p ≡ 42 ∷ drop (k + 1) p = front ∙ ap (λ c. c ∷ drop (k + 1) p) is in
    ap (λ (l : List ℕ). matches_whole l n) front'

pub whole_before_star : (p n : List ℕ) (k : ℕ) → IsBeforeStar p n k → matches_whole p n ≡ star (matches_whole (drop (k + 1) p)) (drop k n)
whole_before_star p n k before = whole_rest p n k before.first ∙ whole_star p (drop k n) k before.here before.star

pub laid_whole : (p n : List ℕ) (laid : Laid) → is_whole laid ≡ true → IsLaid p n laid → matches_whole p n ≡ true
laid_whole p n Whole is laid = laid
laid_whole p n (Star count) is laid = absurd (grind arith)
laid_whole p n Fails is laid = absurd (grind arith)

pub laid_fails : (p n : List ℕ) (laid : Laid) → is_whole laid ≡ false → ((count : ℕ) → laid ≢ Star count) → IsLaid p n laid → matches_whole p n ≡ false
laid_fails p n Whole is other laid = absurd (grind arith)
laid_fails p n (Star count) is other laid = absurd (other count refl)
laid_fails p n Fails is other laid = laid
