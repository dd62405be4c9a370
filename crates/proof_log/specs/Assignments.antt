-- Literals in the order in which they were set, with a mark for each.
use Rattle.std.specs.Prelude.{◌≡◌, ℕ, ◌+◌, ◌*◌, ◌^◌, ◌<◌, ◌≤◌, Bool, true, false, List, map, length, nat_eq, slice_index_or}
use Rattle.std.specs.List.{IsDistinct}
use Rattle.proof_log.specs.Literals.{lit_var, InVars}
use Rattle.proof_log.specs.Clauses.{is_set}

-- the number of variables, and the literals that are set
pub record Assigned : Type 0 where
  pub vars : ℕ
  pub lits : List ℕ

pub record IsAssignment (vars : ℕ) (marks : List Bool) (lits : List ℕ) (room : ℕ) : Type 0 where
  pub few : vars < 2 ^ 31
  pub long : length marks ≡ 2 * vars + 2
  pub marked : (l : ℕ) → l < 2 * vars + 2 → slice_index_or marks l false ≡ is_set lits l
  pub in_vars : (l : ℕ) → is_set lits l ≡ true → InVars vars l
  pub distinct : IsDistinct nat_eq (map lit_var lits)
  pub roomy : vars + 1 ≤ room
