-- One more value at the end of a row.
use Rattle.std.proofs.Common.{◌≡◌, ℕ, zero, suc, ◌+◌, ◌<◌, List, [], ◌∷◌, ◌++◌, length, refl, ◌∙◌, arith, below_more}
use Rattle.net_model.specs.declared.terns.Tern.{Tern}
use Rattle.firm_runs.specs.Cycles3.{tern_at}

pub length_pushed : (xs : List Tern) (x : Tern) → length (xs ++ x ∷ []) ≡ length xs + 1
length_pushed [] x = refl
length_pushed (y ∷ xs) x = omega (arith, length_pushed xs x)

pushed_low : (xs : List Tern) (x : Tern) (k : ℕ) → k < length xs → tern_at (xs ++ x ∷ []) k ≡ tern_at xs k
pushed_low [] x k lt = absurd (omega arith)
pushed_low (y ∷ xs) x zero lt = refl
pushed_low (y ∷ xs) x (suc k) lt = pushed_low xs x k (omega arith)

pushed_last : (xs : List Tern) (x : Tern) → tern_at (xs ++ x ∷ []) (length xs) ≡ x
pushed_last [] x = refl
pushed_last (y ∷ xs) x = pushed_last xs x

-- the values of a row are those of a function, and so is one more
pub each_more : (f : ℕ → Tern) (xs : List Tern) (x : Tern) (n : ℕ) → length xs ≡ n → x ≡ f n → ((i : ℕ) → i < n → tern_at xs i ≡ f i)
    → (i : ℕ) → i < n + 1 → tern_at (xs ++ x ∷ []) i ≡ f i
each_more f xs x n len is done =
    below_more (λ i. tern_at (xs ++ x ∷ []) i ≡ f i) n
    (λ i lt. pushed_low xs x i (omega arith) ∙ done i lt)
    (rw (← len) (pushed_last xs x ∙ rw len is))
