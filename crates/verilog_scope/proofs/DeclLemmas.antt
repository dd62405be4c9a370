-- Lists that are written past their end.
use Rattle.std.proofs.Common.{arith, ◌≡◌, ℕ, zero, suc, ◌≤◌, List, [], ◌∷◌, length, refl, ap}
use Rattle.std.specs.Prelude.{slice_set}

-- nothing is written past the end
pub slice_set_past : {A : Type 0} (xs : List A) (i : ℕ) (x : A) → length xs ≤ i → slice_set xs i x ≡ xs
slice_set_past [] i x past = refl
slice_set_past (y ∷ ys) zero x past = absurd (omega arith)
slice_set_past (y ∷ ys) (suc i) x past = ap (λ zs. y ∷ zs) (slice_set_past ys i x (omega arith))
