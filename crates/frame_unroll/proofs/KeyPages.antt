-- Pages of numbers that grow by blank ones.
use Rattle.std.proofs.Common.{◌≡◌, ℕ, zero, suc, ◌<◌, ◌≤◌, Bool, true, false, cond, List, [], ◌∷◌, ◌++◌, take, get_or, refl, ap, ◌∙◌}
use Rattle.std.proofs.Common.{arith, inl, inr, ◌⊎◌, length-take}
use Rattle.std.proofs.lemmas.Bool.{cases_lt}
use Rattle.std.proofs.lemmas.List.{get_or-take, get_or_past}

-- zeros at the end change no read
zeros_after : (xs ys : List ℕ) → ((i : ℕ) → get_or ys i 0 ≡ 0) → (i : ℕ) → get_or (xs ++ ys) i 0 ≡ get_or xs i 0
zeros_after [] ys zeros i = zeros i
zeros_after (x ∷ xs) ys zeros zero = refl
zeros_after (x ∷ xs) ys zeros (suc i) = zeros_after xs ys zeros i

-- the first page has zeros alone
pub zeros_first : (xs : List ℕ) (n : ℕ) → ((i : ℕ) → i < n → get_or xs i 0 ≡ 0) → (i : ℕ) → get_or (take n xs) i 0 ≡ 0
zeros_first xs n zeros i = by (cases_lt i n)
  where
    by : (i < n) ⊎ (n ≤ i) → get_or (take n xs) i 0 ≡ 0
    by (inl low) = get_or-take n xs i 0 low ∙ zeros i low
    by (inr past) = get_or_past (take n xs) i 0 (omega (arith, length-take n xs))

-- so a list that may have grown by it reads as before
pub grown_reads : (b : Bool) (xs ys new : List ℕ) → new ≡ cond b (xs ++ ys) xs → ((i : ℕ) → get_or ys i 0 ≡ 0) → (i : ℕ) → get_or new i 0 ≡ get_or xs i 0
grown_reads true xs ys new is zeros i = ap (λ (l : List ℕ). get_or l i 0) is ∙ zeros_after xs ys zeros i
grown_reads false xs ys new is zeros i = ap (λ (l : List ℕ). get_or l i 0) is
