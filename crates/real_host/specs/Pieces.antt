-- What a writer holds after a piece, where that is known.
use Rattle.std.specs.Prelude.{ℕ, List, take, Option, Result, Ok, Err}
use Rattle.std.specs.Io.KnownBytes.{Appends}

-- the whole piece is written, or the call failed and the front of it is
abbrev pub Writes : {T E : Type 0} → Option (List ℕ) → Option (List ℕ) → List ℕ → Result T E → Type 0
Writes old new piece (Ok _) = Appends old new piece
Writes old new piece (Err _) = (n : ℕ) × Appends old new (take n piece)
