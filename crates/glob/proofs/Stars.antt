-- A part of a pattern between two `*`, taken at the first place where it fits.
use Rattle.std.proofs.Common.{arith, ◌≡◌, ◌≢◌, ◌==◌, ◌<◌, ◌+◌, ◌-◌, ℕ, zero, suc, Bool, true, false, not, ◌&&◌, ◌||◌, List, [], ◌∷◌, length, drop}
use Rattle.std.proofs.Common.{get_or, slice_index, refl, sym, ap, ◌∙◌, subst, inl, inr}
use Rattle.std.proofs.lemmas.Bool.{cases_lt, cases_Bool, and_parts, or_right}
use Rattle.std.proofs.lemmas.Bool.Decides.{nat_tests}
use Rattle.std.proofs.lemmas.List.{drop-drop, get_or-drop}
use Rattle.glob.specs.Match.{star, passes, fits, matches_whole}
use Rattle.glob.specs.Segments.{FitsFirst, IsBeforeStar}
use Rattle.glob.proofs.Laying.{is_byte, is_other, fits_from_match, whole_before_star}

-- no `/` among the first so many bytes
NoSlash : List ℕ → ℕ → Type 0
NoSlash name count = (i : ℕ) → i < count → get_or name i 0 ≢ 47

-- the place to which a `*` reaches before the rest matches
record Reached (rest : List ℕ → Bool) (name : List ℕ) : Type 0 where
  pub place : ℕ
  pub free : NoSlash name place
  pub matched : rest (drop place name) ≡ true

no_slash_more : (c : ℕ) (cs : List ℕ) (count : ℕ) → c ≢ 47 → NoSlash cs count → NoSlash (c ∷ cs) (suc count)
unfolding NoSlash
no_slash_more c cs count differs free zero low = differs
no_slash_more c cs count differs free (suc i) low = free i (omega (arith, low))

star_reaches : (rest : List ℕ → Bool) (name : List ℕ) → star rest name ≡ true → Reached rest name
unfolding star NoSlash
star_reaches rest [] e = record { place = 0; free = λ i low. absurd (omega (arith, low)); matched = e }
star_reaches rest (c ∷ cs) e =
    elim (cases_Bool (rest (c ∷ cs))) [
      | inl here ↦ record { place = 0; free = λ i low. absurd (omega (arith, low)); matched = here }
      | inr later ↦
          let both : (not (c == 47) && star rest cs) ≡ true = rw later at e in
          let (other, goes) = and_parts (not (c == 47)) (star rest cs) both in
          let more : Reached rest cs = star_reaches rest cs goes in
          record { place = suc more.place; free = no_slash_more c cs more.place (is_other c 47 other) more.free; matched = more.matched }
    ]

pub star_here : (rest : List ℕ → Bool) (name : List ℕ) → rest name ≡ true → star rest name ≡ true
unfolding star
star_here rest [] e = e
star_here rest (c ∷ cs) e = rw e refl

not_byte : (c d : ℕ) → c ≢ d → not (c == d) ≡ true
not_byte c d differs = grind (arith, nat_tests)

-- a `*` reaches from a place to each later one without a `/` between
star_reached : (rest : List ℕ → Bool) (name : List ℕ) (place : ℕ) → NoSlash name place → star rest (drop place name) ≡ true → star rest name ≡ true
unfolding star NoSlash
star_reached rest name zero free e = e
star_reached rest [] (suc place) free e = e
star_reached rest (c ∷ cs) (suc place) free e =
    let other : not (c == 47) ≡ true = not_byte c 47 (free 0 (omega arith)) in
    let later : star rest cs ≡ true = star_reached rest cs place (λ i low. free (suc i) (omega (arith, low))) e in
    or_right (rest (c ∷ cs)) (not (c == 47) && star rest cs) (rw other later)

-- `/` is matched by `/` alone, and matches nothing else
fits_slash : (p : ℕ) (name : List ℕ) → fits p name ≡ true → slice_index name 0 ≡ 47 → p ≡ 47
fits_slash p name e slash =
    elim (cases_Bool (p == 63)) [
      | inl any ↦
          let pass : (not (length name == 0) && not (slice_index name 0 == 47)) ≡ true = rw any at e in
          let (some, other) = and_parts (not (length name == 0)) (not (slice_index name 0 == 47)) pass in
          absurd (is_other (slice_index name 0) 47 other slash)
      | inr plain ↦
          let both : (not (length name == 0) && slice_index name 0 == p) ≡ true = rw plain at e in
          let (some, same) = and_parts (not (length name == 0)) (slice_index name 0 == p) both in
          sym (is_byte (slice_index name 0) p same) ∙ slash
    ]

slash_fits : (name : List ℕ) → fits 47 name ≡ true → slice_index name 0 ≡ 47
slash_fits name e =
    let (some, same) = and_parts (not (length name == 0)) (slice_index name 0 == 47) e in
    is_byte (slice_index name 0) 47 same

first_of_drop : (n : List ℕ) (i : ℕ) → slice_index (drop i n) 0 ≡ get_or n i 0
first_of_drop n i = let same : i + 0 ≡ i = omega arith in get_or-drop i n 0 0 ∙ ap (λ q. get_or n q 0) same

-- a part that fits at two places without a `/` between them has none
free_below : (p n : List ℕ) (j k b i : ℕ) → FitsFirst p n k → FitsFirst p (drop j n) k → 0 < j → NoSlash n j → i < b → i < j + k → get_or n i 0 ≢ 47
unfolding NoSlash
free_below p n j k zero i first second some free low within slash = absurd (omega (arith, low))
free_below p n j k (suc b) i first second some free low within slash =
    elim (cases_lt i j) [
      | inl before ↦ free i before slash
      | inr past ↦
          let q : ℕ = i - j in
          let back : j + q ≡ i = omega (arith, past) in
          let inside : q < k = omega (arith, back, within) in
          let again : slice_index (drop q (drop j n)) 0 ≡ 47 = ap (λ (l : List ℕ). slice_index l 0) (drop-drop q j n) ∙ first_of_drop n (j + q)
          ∙ ap (λ m. get_or n m 0) back ∙ slash in
          let byte : slice_index p q ≡ 47 = fits_slash (slice_index p q) (drop q (drop j n)) (second.each q inside) again in
          let here : get_or n q 0 ≡ 47 = sym (first_of_drop n q) ∙ slash_fits (drop q n) (subst (λ c. fits c (drop q n) ≡ true) byte (first.each q inside)) in
          free_below p n j k b q first second some free (omega (arith, back, some, low)) (omega (arith, back, within)) here
    ]

bool_same : (a b : Bool) → (a ≡ true → b ≡ true) → (b ≡ true → a ≡ true) → a ≡ b
bool_same true b there back = sym (there refl)
bool_same false true there back = back refl
bool_same false false there back = refl

plus_turns : (a b : ℕ) → a + b ≡ b + a
plus_turns a b = omega arith

-- the first place is enough
first_is_enough : (p n : List ℕ) (k : ℕ) → IsBeforeStar p n k → star (matches_whole p) n ≡ true → star (matches_whole (drop (k + 1) p)) (drop k n) ≡ true
unfolding NoSlash
first_is_enough p n k before e =
    let reached : Reached (matches_whole p) n = star_reaches (matches_whole p) n e in
    let j : ℕ = reached.place in
    let rest : List ℕ → Bool = matches_whole (drop (k + 1) p) in
    elim (cases_lt 0 j) [
      | inl some ↦
          let second : FitsFirst p (drop j n) k = fits_from_match p (drop j n) k before.first.within before.first.plain reached.matched in
          let again : IsBeforeStar p (drop j n) k = record { first = second; here = before.here; star = before.star } in
          let later : star rest (drop k (drop j n)) ≡ true = sym (whole_before_star p (drop j n) k again) ∙ reached.matched in
          let turned : drop k (drop j n) ≡ drop j (drop k n) = drop-drop k j n ∙ ap (λ m. drop m n) (plus_turns j k) ∙ sym (drop-drop j k n) in
          star_reached rest (drop k n) j
          (λ i low slash. free_below p n j k (j + k) (k + i) before.first second some reached.free (omega (arith, low)) (omega (arith, low))
          (sym (first_of_drop n (k + i)) ∙ ap (λ (l : List ℕ). slice_index l 0) (sym (drop-drop i k n)) ∙ first_of_drop (drop k n) i ∙ slash))
          (subst (λ (l : List ℕ). star rest l ≡ true) turned later)
      | inr none ↦
          let zero_is : j ≡ 0 = omega (arith, none) in
          let matched : matches_whole p n ≡ true = subst (λ m. matches_whole p (drop m n) ≡ true) zero_is reached.matched in
          sym (whole_before_star p n k before) ∙ matched
    ]

pub star_moves_on : (p n : List ℕ) (k : ℕ) → IsBeforeStar p n k → star (matches_whole p) n ≡ star (matches_whole (drop (k + 1) p)) (drop k n)
star_moves_on p n k before =
    bool_same (star (matches_whole p) n) (star (matches_whole (drop (k + 1) p)) (drop k n)) (first_is_enough p n k before)
    (λ e. star_here (matches_whole p) n (whole_before_star p n k before ∙ e))

-- one byte more for the `*`, or none
pub star_takes : (rest : List ℕ → Bool) (name : List ℕ) → rest name ≡ false → passes name ≡ true → star rest name ≡ star rest (drop 1 name)
unfolding star
star_takes rest [] fails pass = absurd (grind arith)
star_takes rest (c ∷ cs) fails pass =
    let (some, other) = and_parts (not (length (c ∷ cs) == 0)) (not (c == 47)) pass in
    rw fails (rw other refl)

pub star_stops : (rest : List ℕ → Bool) (name : List ℕ) → rest name ≡ false → passes name ≡ false → star rest name ≡ false
unfolding star
star_stops rest [] fails pass = fails
star_stops rest (c ∷ cs) fails pass =
    let some : not (length (c ∷ cs) == 0) ≡ true = grind (arith, nat_tests) in
    let slash : not (c == 47) ≡ false = rw some at pass in
    rw fails (rw slash refl)
