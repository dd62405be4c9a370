-- Numbers below a limit, and clauses that are all true.
use Rattle.std.proofs.Common.{◌≡◌, ℕ, zero, suc, ◌<◌, Bool, true, List, [], ◌∷◌, arith, inl, inr, refl, subst}
use Rattle.net_model.proofs.Members.{In, In-left, In-right, In-cases}
use Rattle.query_model.specs.Keys.{is_true, AllTrue, below}
use Rattle.query_model.specs.declared.keys.Key.{Key}
use Rattle.query_model.specs.declared.keys.KeyLit.{KeyLit}

-- the numbers below n are those below n
pub In-below : (n k : ℕ) → k < n → In k (below n)
In-below zero k lt = absurd (omega arith)
In-below (suc n) k lt =
    elim (Rattle.std.proofs.lemmas.Bool.cases_lt k n) [
      | inl less ↦ In-left k (below n) (n ∷ []) (In-below n k less)
      | inr more ↦ let e : n ≡ k = omega arith in In-right k (below n) (n ∷ []) (inl e)
    ]

pub below_less : (n k : ℕ) → In k (below n) → k < n
below_less zero k has = absurd has
below_less (suc n) k has =
    elim (In-cases k (below n) (n ∷ []) has) [
      | inl before ↦ let lt = below_less n k before in omega arith
      | inr last ↦ elim last [ inl e ↦ omega arith | inr none ↦ absurd none ]
    ]

-- clauses are all true exactly where each one is
pub all_true : (v : Key → Bool) (cs : List (List KeyLit)) → ((c : List KeyLit) → In c cs → is_true v c ≡ true) → AllTrue v cs
all_true v [] each = tt
all_true v (c ∷ cs) each = (each c (inl refl), all_true v cs (λ d has. each d (inr has)))

pub true_at : (v : Key → Bool) (cs : List (List KeyLit)) (c : List KeyLit) → AllTrue v cs → In c cs → is_true v c ≡ true
true_at v [] c all has = absurd has
true_at v (d ∷ cs) c all (inl here) = subst (λ e. is_true v e ≡ true) here all.0
true_at v (d ∷ cs) c all (inr later) = true_at v cs c all.1 later
