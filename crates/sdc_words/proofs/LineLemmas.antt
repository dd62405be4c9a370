-- One turn of the loops that leave out carriage returns, and that find where a byte stood; lines of later places.
use Rattle.std.proofs.Common.{◌≡◌, ℕ, zero, suc, ◌+◌, ◌-◌, ◌<◌, Bool, true, false, List, ◌∷◌, ◌++◌, length, length-append, take, drop, filter, refl}
use Rattle.std.proofs.Common.{arith, ◌==◌}
use Rattle.std.proofs.lemmas.Bool.Decides.{nat_tests}
use Rattle.std.proofs.Math.Seq.{take-add}
use Rattle.std.proofs.lemmas.List.Elements.{filter-append}
use Rattle.std.proofs.lemmas.List.Sums.{length-filter}
use Rattle.sdc_words.specs.Lines.{is_passed, cleaned, original_from, newlines, line_of}

module _ (b : ℕ) (s : List ℕ) where
  -- a carriage return is left out
  pub cleaned_passed : is_passed (b ∷ s) ≡ true → cleaned (b ∷ s) ≡ cleaned s
  unfolding cleaned
  cleaned_passed e = rw e refl

  -- another byte stays
  pub cleaned_kept : is_passed (b ∷ s) ≡ false → cleaned (b ∷ s) ≡ b ∷ cleaned s
  unfolding cleaned
  cleaned_kept e = rw e refl

  -- a carriage return is passed, the byte is found, or it comes later
  pub original_passed : (i k : ℕ) → is_passed (b ∷ s) ≡ true → original_from i k (b ∷ s) ≡ original_from (i + 1) k s
  unfolding original_from
  original_passed i k e = rw e refl

  pub original_here : (i k : ℕ) → is_passed (b ∷ s) ≡ false → k ≡ 0 → original_from i k (b ∷ s) ≡ i
  unfolding original_from
  original_here i zero e found = rw e refl
  original_here i (suc k) e found = absurd (omega arith)

  pub original_later : (i k : ℕ) → is_passed (b ∷ s) ≡ false → 0 < k → original_from i k (b ∷ s) ≡ original_from (i + 1) (k - 1) s
  unfolding original_from
  original_later i zero e some = absurd (omega arith)
  original_later i (suc k) e some = let differs : (suc k == 0) ≡ false = grind (arith, nat_tests) in rw (e, differs) refl

newlines-append : (xs ys : List ℕ) → newlines (xs ++ ys) ≡ newlines xs + newlines ys
newlines-append xs ys =
    let p : ℕ → Bool = λ b. b == 10 in
    rw (← length-filter p (xs ++ ys), ← length-filter p xs, ← length-filter p ys, filter-append p xs ys) (length-append (filter p xs) (filter p ys))

-- the line n bytes after a place p
pub line_later : (text s t : List ℕ) (p n : ℕ) → length text - length s ≡ p → length text - length t ≡ p + n
    → line_of text t ≡ line_of text s + newlines (take n (drop p text))
line_later text s t p n here later =
    rw (here, later, take-add p n text) (omega (arith, newlines-append (take p text) (take n (drop p text))))
