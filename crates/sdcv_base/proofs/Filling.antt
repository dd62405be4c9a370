-- Lists with one value at every place.
use Rattle.std.proofs.Common.{◌≡◌, ℕ, zero, suc, get_or, replicate, refl}

-- a list of one value reads that value at every place, within it and beyond
pub get_or-filled : {A : Type 0} → (n i : ℕ) (a : A) → get_or (replicate n a) i a ≡ a
get_or-filled zero i a = refl
get_or-filled (suc n) zero a = refl
get_or-filled (suc n) (suc i) a = get_or-filled n i a
