-- Watches, each on one literal or on none.
use Rattle.std.specs.Prelude.{◌≡◌, ℕ, ◌<◌, ◌⊎◌, true, List, length, slice_index}
use Rattle.proof_log.specs.Clauses.{is_set}
use Rattle.watch_lists.specs.Chains.{list_at}

-- the limit of the literals' numbers, the literal that each watch is on (0 for none), and the watches that wait
pub record Watching : Type 0 where
  pub limit : ℕ
  pub literals : List ℕ
  pub waiting : List ℕ

-- a watch stands in the list of the literal that it is on, or in the list of those that wait
pub record IsWatching (lists : List (List ℕ)) (nodes : ℕ) (literals : List ℕ) : Type 0 where
  pub some : 0 < length lists
  pub long : length literals ≡ nodes
  pub below : (n : ℕ) → slice_index literals n < length lists
  pub listed : (n : ℕ) → 0 < slice_index literals n → (is_set (list_at lists (slice_index literals n)) n ≡ true) ⊎ (is_set (list_at lists 0) n ≡ true)
  pub own : (l n : ℕ) → 0 < l → is_set (list_at lists l) n ≡ true → slice_index literals n ≡ l
  pub waits : (n : ℕ) → is_set (list_at lists 0) n ≡ true → 0 < slice_index literals n
