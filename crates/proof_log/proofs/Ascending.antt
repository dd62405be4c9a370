-- Clauses in normal form, literal by literal.
use Rattle.std.proofs.Common.{◌≡◌, ℕ, ◌+◌, ◌-◌, ◌<◌, ◌≤◌, List, [], ◌∷◌, ◌++◌, length, get_or, take, refl, sym, ap, ◌∙◌, subst, inl}
use Rattle.std.proofs.Common.{inr, arith}
use Rattle.std.specs.List.{All}
use Rattle.std.proofs.lemmas.Bool.{cases_lt}
use Rattle.std.proofs.lemmas.List.{take_more, take_all, length-take-le, get_or-take}
use Rattle.std.proofs.lemmas.List.Elements.{All-more, All-nil}
use Rattle.proof_log.specs.Literals.{lit_var, InVars}
use Rattle.proof_log.specs.Clauses.{IsNormal}
use Rattle.proof_log.proofs.Normalizing.{IsNormal-push, normal_ascends}

-- what the walk along a clause knows: its first literals are in normal form, up to that variable
pub record IsNormalSoFar (vars : ℕ) (lits : List ℕ) (i before : ℕ) : Type 0 where
  pub normal : IsNormal (take i lits)
  pub in_vars : All (InVars vars) (take i lits)
  pub none : i ≡ 0 → before ≡ 0
  pub last : 0 < i → before ≡ lit_var (get_or lits (i - 1) 0)

pub so_far_none : (vars : ℕ) (lits : List ℕ) → IsNormalSoFar vars lits 0 0
so_far_none vars lits = record { normal = tt; in_vars = All-nil (InVars vars); none = λ e. refl; last = λ h. absurd (omega arith) }

pub so_far_more : (vars : ℕ) (lits : List ℕ) (i before l : ℕ) → i < length lits → l ≡ get_or lits i 0 → 2 ≤ l → before < lit_var l → lit_var l ≤ vars
    → IsNormalSoFar vars lits i before → IsNormalSoFar vars lits (i + 1) (lit_var l)
so_far_more vars lits i before l h l_is low above below s =
    let long : length (take i lits) ≡ i = length-take-le i lits (omega arith) in
    let N : List ℕ → Type 0 = IsNormal in
    let next : take (i + 1) lits ≡ take i lits ++ l ∷ [] = take_more lits i 0 h ∙ ap (λ q. take i lits ++ q ∷ []) (sym l_is) in
    let P : ℕ → Type 0 = InVars vars in
    record {
      normal = subst N (sym next) (IsNormal-push (take i lits) l s.normal (λ k lt. earlier k (omega (arith, long))));
      in_vars = All-more P lits i 0 h s.in_vars (subst P l_is (low, omega (arith, below)));
      none = λ e. absurd (omega arith);
      last = λ z. ap lit_var (l_is ∙ ap (λ n. get_or lits n 0) (omega arith));
    }
  where
    earlier : (k : ℕ) → k < i → lit_var (get_or (take i lits) k 0) < lit_var l
    earlier k lt =
        let here = get_or-take i lits k 0 lt in
        let e = s.last (omega arith) in
        elim (cases_lt k (i - 1)) [
          | inl less ↦
              let a = normal_ascends (take i lits) k (i - 1) s.normal less (omega (arith, length-take-le i lits (omega arith))) in
              let there = get_or-take i lits (i - 1) 0 (omega arith) in
              omega (arith, ap lit_var here, ap lit_var there)
          | inr same ↦
              let k_is : k ≡ i - 1 = omega arith in
              omega (arith, ap lit_var (here ∙ ap (λ n. get_or lits n 0) k_is))
        ]

-- a literal that is not above the one before, or not of the variables, leaves no normal form
pub not_normal : (vars : ℕ) (lits : List ℕ) (i before l : ℕ) → i < length lits → l ≡ get_or lits i 0 → 1 ≤ lit_var l
    → IsNormalSoFar vars lits i before → lit_var l ≤ before → IsNormal lits → ⊥
not_normal vars lits i before l h l_is low s le n =
    elim (cases_lt 0 i) [
      | inl some ↦
          let a = normal_ascends lits (i - 1) i n (omega arith) h in
          let e = s.last some in
          absurd (omega (arith, ap lit_var l_is))
      | inr none ↦ let e = s.none (omega arith) in absurd (omega arith)
    ]

pub not_in_vars : (vars : ℕ) (lits : List ℕ) (i l : ℕ) → i < length lits → l ≡ get_or lits i 0 → vars < lit_var l → All (InVars vars) lits → ⊥
not_in_vars vars lits i l h l_is above all =
    let P : ℕ → Type 0 = InVars vars in
    let here = subst P (sym l_is) (all i 0 h) in
    absurd (omega (arith, here.1))

pub so_far_all : (vars : ℕ) (lits : List ℕ) (i before : ℕ) → length lits ≤ i → IsNormalSoFar vars lits i before → IsNormal lits × All (InVars vars) lits
so_far_all vars lits i before h s =
    let N : List ℕ → Type 0 = IsNormal in
    let V : List ℕ → Type 0 = All (InVars vars) in
    (subst N (take_all i lits h) s.normal, subst V (take_all i lits h) s.in_vars)
