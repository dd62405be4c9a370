-- Numbers of nets by a row.
use Rattle.std.specs.Prelude.{ℕ, List, slice_index_or}

-- the number of a net; one that the row hasn't has the number of all nets of the design
abbrev pub number_in : List ℕ → ℕ → ℕ → ℕ
number_in row nets net = slice_index_or row net nets
