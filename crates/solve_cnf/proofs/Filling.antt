-- Values with more that are false after them.
use Rattle.std.proofs.Common.{◌≡◌, ℕ, zero, suc, ◌-◌, max, Bool, false, List, [], ◌∷◌, ◌++◌, get_or, replicate, length, refl, ap, arith}
use Rattle.std.proofs.lemmas.List.{length-append}
use Rattle.solve_cnf.specs.Answers.{filled}

none_at : (n k : ℕ) → get_or (replicate n false) k false ≡ false
none_at zero k = refl
none_at (suc n) zero = refl
none_at (suc n) (suc k) = none_at n k

same_at : (values : List Bool) (n k : ℕ) → get_or (values ++ replicate n false) k false ≡ get_or values k false
same_at [] n k = none_at n k
same_at (v ∷ values) n zero = refl
same_at (v ∷ values) n (suc k) = same_at values n k

-- each place has the value that it had, or false where it had none
pub filled_at : (vars : ℕ) (values : List Bool) (k : ℕ) → get_or (filled vars values) k false ≡ get_or values k false
filled_at vars values k = same_at values (vars - length values) k

many : (n : ℕ) → length (replicate n false) ≡ n
many zero = refl
many (suc n) = ap suc (many n)

-- there are as many as are wanted, or as there were
pub length-filled : (vars : ℕ) (values : List Bool) → length (filled vars values) ≡ max vars (length values)
length-filled vars values =
    let more = many (vars - length values) in
    omega (arith, more, length-append values (replicate (vars - length values) false))
