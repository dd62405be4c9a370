-- One turn of the loop over what two bytes close.
use Rattle.std.proofs.Common.{◌≡◌, ℕ, ◌+◌, ◌<◌, true, false, List, [], ◌∷◌, length, drop, Some, None, refl, arith}
use Rattle.texts.specs.Fronts.{has_two, closed_from}

-- it is closed here
pub closed_here : (a b i : ℕ) (s : List ℕ) → 0 < length s → has_two a b s ≡ true → closed_from a b i s ≡ Some (i + 2)
unfolding closed_from
closed_here a b i [] some e = absurd (omega arith)
closed_here a b i (c ∷ s) some e = rw e refl

-- it is not
pub closed_later : (a b i : ℕ) (s : List ℕ) → 0 < length s → has_two a b s ≡ false → closed_from a b i s ≡ closed_from a b (i + 1) (drop 1 s)
unfolding closed_from
closed_later a b i [] some e = absurd (omega arith)
closed_later a b i (c ∷ s) some e = rw e refl

-- the text has ended
pub closed_none : (a b i : ℕ) (s : List ℕ) → length s ≡ 0 → closed_from a b i s ≡ None
unfolding closed_from
closed_none a b i [] e = refl
closed_none a b i (c ∷ s) e = absurd (omega arith)
