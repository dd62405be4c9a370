-- Marks.
use Rattle.std.proofs.Common.{◌≡◌, ℕ, ◌<◌, List, [], ◌∷◌, length, slice_index, arith}

-- a text with a mark at its front is not empty
pub first_some : (s : List ℕ) (mark : ℕ) → slice_index s 0 ≡ mark → 0 < mark → 0 < length s
first_some [] mark e some = absurd (omega arith)
first_some (b ∷ s) mark e some = omega arith
