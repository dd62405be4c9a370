-- Where nets first stand in a list.
use Rattle.std.specs.Prelude.{◌≡◌, ℕ, ◌<◌, List, length, nat_eq, slice_index_or}
use Rattle.std.specs.List.{position_or_len}

-- a row over so many nets: the place at which each first stands in a list, or the list's length
pub record IsFirstRow (nets : ℕ) (list row : List ℕ) : Type 0 where
  pub len : length row ≡ nets
  pub each : (net : ℕ) → net < nets → slice_index_or row net (length list) ≡ position_or_len (nat_eq net) list
