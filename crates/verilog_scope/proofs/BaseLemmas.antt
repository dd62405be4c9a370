-- Numbers of first nets.
use Rattle.std.proofs.Common.{◌≡◌, ◌≤◌, ◌<◌, ℕ, zero, suc, ◌+◌, List, [], ◌∷◌, length, get_or, refl, arith}
use Rattle.verilog_scope.specs.declared.decls.Decl.{Decl}
use Rattle.verilog_scope.specs.Ranges.{width}
use Rattle.verilog_scope.specs.Decls.{blank}
use Rattle.verilog_scope.specs.Scopes.{bases_from}

-- a further name
pub bases_more : (n : ℕ) (d : Decl) (ds : List Decl) → bases_from n (d ∷ ds) ≡ n ∷ bases_from (n + width d.range) ds
unfolding bases_from
bases_more n d ds = refl

-- no further name
pub bases_none : (n : ℕ) → bases_from n [] ≡ []
unfolding bases_from
bases_none n = refl

-- no base is below the first
pub bases_from_least : (n : ℕ) (ds : List Decl) (k : ℕ) → k < length ds → n ≤ get_or (bases_from n ds) k 0
unfolding bases_from
bases_from_least n [] k below = absurd (omega arith)
bases_from_least n (d ∷ ds) zero below = omega arith
bases_from_least n (d ∷ ds) (suc k) below = let rest = bases_from_least (n + width d.range) ds k (omega arith) in omega arith

-- a name's nets end before those of each later name begin, so no net is a bit of two names
pub bases_apart : (n : ℕ) (ds : List Decl) (i k : ℕ) → i < k → k < length ds
    → get_or (bases_from n ds) i 0 + width (get_or ds i blank).range ≤ get_or (bases_from n ds) k 0
unfolding bases_from
bases_apart n [] i k order below = absurd (omega arith)
bases_apart n (d ∷ ds) zero zero order below = absurd (omega arith)
bases_apart n (d ∷ ds) (suc i) zero order below = absurd (omega arith)
bases_apart n (d ∷ ds) zero (suc k) order below = bases_from_least (n + width d.range) ds k (omega arith)
bases_apart n (d ∷ ds) (suc i) (suc k) order below = bases_apart (n + width d.range) ds i k (omega arith) (omega arith)
