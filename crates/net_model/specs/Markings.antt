-- Marks of numbers: a bit for each.
use Rattle.std.specs.Prelude.{◌≡◌, ℕ, ◌<◌, ◌+◌, Bool, List, length, count_by, ◌==◌, if◌then◌else◌}
use Rattle.sdcv_base.specs.Seqs.{is_marked}

-- 1 where it is marked, else 0
abbrev pub mark_of : List Bool → ℕ → ℕ
mark_of marks n = if is_marked marks n then 1 else 0

-- the numbers of a list, which had no marks and each of which it has once, are marked too
pub record AddsMarks (numbers : List ℕ) (before now : List Bool) : Type 0 where
  pub len : length now ≡ length before
  pub at : (n : ℕ) → n < length before → mark_of now n ≡ mark_of before n + count_by (λ m. m == n) numbers

-- a number of the list that has a mark before, or that it has twice
pub record IsMarkedTwice (numbers : List ℕ) (before : List Bool) (n : ℕ) : Type 0 where
  pub within : n < length before
  pub twice : 1 < mark_of before n + count_by (λ m. m == n) numbers

-- the numbers of a list are marked, and no others; the list has none of them twice
pub record AreMarked (numbers : List ℕ) (marks : List Bool) : Type 0 where
  pub at : (n : ℕ) → n < length marks → count_by (λ m. m == n) numbers ≡ mark_of marks n
