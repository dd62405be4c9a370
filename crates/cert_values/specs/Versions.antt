-- The versions of certificates: of which formulas each speaks, and which one is written.
use Rattle.std.specs.Prelude.{ℕ, if◌then◌else◌, ◌==◌, nat_lt, Bool, List, length}
use Rattle.std.specs.List.{list_any}
use Rattle.net_model.specs.declared.invariants.InvClause.{InvClause}
use Rattle.query_model.specs.declared.keys.Coding.{Coding}
use Rattle.query_model.specs.declared.keys.Coding.TheVariants.{Rows, Primes}

-- version 1 speaks of rows, versions 2 and 3 of prime cubes
abbrev pub coding_of : ℕ → Coding
coding_of version = if version == 1 then Rows else Primes

-- the clause has more than two literals
abbrev pub is_long : InvClause → Bool
is_long clause = nat_lt 2 (length clause.lits)

-- the version that is written: 3 where some kept clause is long, else 2
abbrev pub version_for : List InvClause → ℕ
version_for kept = if list_any is_long kept then 3 else 2
