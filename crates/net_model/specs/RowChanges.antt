-- Rows of values after a change of one of them.
use Rattle.std.specs.Prelude.{◌≡◌, ◌≢◌, ℕ, List, length}
use Rattle.net_model.specs.Layers.{row_at}

-- there are as many rows, only the row of this layer may differ, and it is as long as before
pub record ChangesRow {V : Type 0} (layer : ℕ) (before now : List (List V)) : Type 0 where
  pub count : length now ≡ length before
  pub others : (m : ℕ) → m ≢ layer → row_at now m ≡ row_at before m
  pub len : length (row_at now layer) ≡ length (row_at before layer)
