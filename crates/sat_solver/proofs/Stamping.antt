-- Stamps that are written and read.
use Rattle.std.proofs.Common.{◌≡◌, ℕ, ◌+◌, ◌<◌, ◌≤◌, Bool, true, false, ◌&&◌, ◌||◌, not, eqb, List, length, get_or, set, sym, ap, ◌∙◌, inl, inr}
use Rattle.std.proofs.Common.{refl, arith}
use Rattle.std.proofs.lemmas.Bool.{cases_eq, eq-eqb, ne_eqb, and_right, or_right, not_from_true}
use Rattle.std.proofs.lemmas.List.{get_or-set_same, get_or-set_other}
use Rattle.proof_log.proofs.Members.{or-false}
use Rattle.sat_solver.specs.Markings.{IsMarks}

-- a stamp is the present one where it is written or was so
pub stamped : (stamps : List ℕ) (present var v : ℕ) → var < length stamps
    → eqb (get_or (set stamps var present) v 0) present ≡ (eqb (get_or stamps v 0) present || eqb var v)
stamped stamps present var v h =
    elim (cases_eq var v) [
      | inl e ↦ ap (λ i. eqb (get_or (set stamps var present) i 0) present) (sym e)
          ∙ (eq-eqb _ _ (get_or-set_same stamps var present 0 h) ∙ sym (or_right (eqb (get_or stamps v 0) present) _ (eq-eqb var v e)))
      | inr ne ↦ ap (λ x. eqb x present) (get_or-set_other stamps var v present 0 (λ e. ne (sym e)))
          ∙ sym (ap (λ b. eqb (get_or stamps v 0) present || b) (ne_eqb var v ne) ∙ or-false (eqb (get_or stamps v 0) present))
    ]

-- and is none where 0 is written
pub unstamped : (stamps : List ℕ) (present var v : ℕ) → 0 < present → var < length stamps
    → eqb (get_or (set stamps var 0) v 0) present ≡ (eqb (get_or stamps v 0) present && not (eqb var v))
unstamped stamps present var v some h =
    elim (cases_eq var v) [
      | inl e ↦ ap (λ i. eqb (get_or (set stamps var 0) i 0) present) (sym e)
          ∙ (ne_eqb _ _ (λ k. absurd (omega (arith, k, get_or-set_same stamps var 0 0 h)))
          ∙ sym (and_right (eqb (get_or stamps v 0) present) _ (not_from_true _ (eq-eqb var v e))))
      | inr ne ↦ ap (λ x. eqb x present) (get_or-set_other stamps var v 0 0 (λ e. ne (sym e)))
          ∙ sym (ap (λ b. eqb (get_or stamps v 0) present && not b) (ne_eqb var v ne) ∙ kept (eqb (get_or stamps v 0) present))
    ]
  where
    kept : (b : Bool) → (b && not false) ≡ b
    kept true = refl
    kept false = refl

-- no stamp is above the present one after one is written
pub IsMarks-set : (stamps : List ℕ) (present var x : ℕ) → IsMarks stamps present → var < length stamps → x ≤ present
    → IsMarks (set stamps var x) present
IsMarks-set stamps present var x m h le = record {
  some = m.some;
  past = λ v. elim (cases_eq v var) [
    | inl e ↦ omega (arith, ap (λ i. get_or (set stamps var x) i 0) e, get_or-set_same stamps var x 0 h)
    | inr ne ↦ omega (arith, get_or-set_other stamps var v x 0 ne, m.past v)
  ];
}

-- a greater stamp is on no variable
pub cleared : (stamps : List ℕ) (present v : ℕ) → ((i : ℕ) → get_or stamps i 0 ≤ present) → eqb (get_or stamps v 0) (present + 1) ≡ false
cleared stamps present v past = ne_eqb _ _ (λ e. let p = past v in absurd (omega (arith, e, p)))

pub IsMarks-next : (stamps : List ℕ) (present : ℕ) → ((i : ℕ) → get_or stamps i 0 ≤ present) → IsMarks stamps (present + 1)
IsMarks-next stamps present past = record { some = omega arith; past = λ v. let p = past v in omega (arith, p) }

-- the places so far are 0
pub zero_more : (xs : List ℕ) (at : ℕ) → at < length xs → ((v : ℕ) → v < at → get_or xs v 0 ≡ 0) → (v : ℕ) → v < at + 1 → get_or (set xs at 0) v 0 ≡ 0
zero_more xs at h before v lt =
    elim (cases_eq v at) [
      | inl e ↦ ap (λ i. get_or (set xs at 0) i 0) e ∙ get_or-set_same xs at 0 0 h
      | inr ne ↦ get_or-set_other xs at v 0 0 ne ∙ before v (omega arith)
    ]
