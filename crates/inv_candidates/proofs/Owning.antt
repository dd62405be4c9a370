-- The first level of a group: a claim's own registers.
use Rattle.std.proofs.Common.{arith, ◌≡◌, ◌≢◌, ℕ, zero, suc, ◌<◌, ◌≤◌, ◌⊎◌, min, max, Bool, true, false, List, [], ◌∷◌, length, ◌==◌}
use Rattle.std.proofs.Common.{refl, ap, subst, ◌∙◌, inl, inr, Contains, if◌then◌else◌}
use Rattle.std.proofs.lemmas.Bool.{cases_lt}
use Rattle.std.proofs.lemmas.Bool.Decides.{nat_tests}
use Rattle.std.proofs.lemmas.Option.{slice_get_within, same_Some}
use Rattle.net_model.specs.Netlist.{AllBelow}
use Rattle.net_model.specs.Fits.{IsStartIn, IsEndIn}
use Rattle.net_model.specs.declared.netlist.Design.{Design}
use Rattle.net_model.specs.declared.claims.Claim.{Claim}
use Rattle.net_model.specs.declared.claims.Start.{Start}
use Rattle.net_model.specs.declared.claims.Start.TheVariants.{Reg as RegStart, Input as InputStart}
use Rattle.net_model.specs.declared.claims.End.{End}
use Rattle.net_model.specs.declared.claims.End.TheVariants.{Reg as RegEnd, Output as OutputEnd}
use Rattle.inv_candidates.specs.Near.{IsNear, ComesBefore, Nearer, Smaller}
use Rattle.inv_candidates.specs.Levels.{own_regs, IsUpTo, Ascends}
use Rattle.inv_candidates.proofs.Growing.{has_at, below_from_contains}
use Rattle.inv_candidates.proofs.Grouping.{near_later}

-- one or two registers, by whether they are one
abbrev one_or_two : ℕ → ℕ → Bool → List ℕ
one_or_two a b same = if same then (a ∷ []) else (min a b ∷ max a b ∷ [])

two_has : (a b r : ℕ) (same : Bool) → Contains (one_or_two a b same) r → (a ≡ r) ⊎ (b ≡ r)
two_has a b r true (zero, below, is) = inl is
two_has a b r true (suc i, below, is) = absurd (omega (arith, below))
two_has a b r false (zero, below, is) = elim (cases_lt a b) [ inl lt ↦ inl (omega (arith, is)) | inr le ↦ inr (omega (arith, is)) ]
two_has a b r false (suc zero, below, is) = elim (cases_lt a b) [ inl lt ↦ inr (omega (arith, is)) | inr le ↦ inl (omega (arith, is)) ]
two_has a b r false (suc (suc i), below, is) = absurd (omega (arith, below))

has_two : (a b r : ℕ) (same : Bool) → (same ≡ true → a ≡ b) → (a ≡ r) ⊎ (b ≡ r) → Contains (one_or_two a b same) r
has_two a b r true e (inl is) = (0, omega arith, is)
has_two a b r true e (inr is) = (0, omega arith, e refl ∙ is)
has_two a b r false e (inl is) = elim (cases_lt a b) [ inl lt ↦ (0, omega arith, omega (arith, is)) | inr le ↦ (1, omega arith, omega (arith, is)) ]
has_two a b r false e (inr is) = elim (cases_lt a b) [ inl lt ↦ (1, omega arith, omega (arith, is)) | inr le ↦ (0, omega arith, omega (arith, is)) ]

two_ascend : (a b : ℕ) (same : Bool) → (same ≡ false → a ≢ b) → Ascends (one_or_two a b same)
two_ascend a b true e i j x y lt at_i at_j = absurd (let low = slice_get_within (a ∷ []) j y at_j in omega (arith, low))
two_ascend a b false e zero (suc zero) x y lt at_i at_j =
    let first : min a b ≡ x = same_Some (min a b) x at_i in
    let second : max a b ≡ y = same_Some (max a b) y at_j in
    let differ = e refl in
    omega (arith, first, second, differ)
two_ascend a b false e zero zero x y lt at_i at_j = absurd (omega arith)
two_ascend a b false e (suc i) (suc zero) x y lt at_i at_j = absurd (omega arith)
two_ascend a b false e (suc i) zero x y lt at_i at_j = absurd (omega arith)
two_ascend a b false e i (suc (suc j)) x y lt at_i at_j =
    absurd (let low = slice_get_within (min a b ∷ max a b ∷ []) (suc (suc j)) y at_j in omega (arith, low))

is_same : (a b : ℕ) → (a == b) ≡ true → a ≡ b
is_same a b e = grind (arith, nat_tests)

is_other : (a b : ℕ) → (a == b) ≡ false → a ≢ b
is_other a b e = grind (arith, nat_tests)

lone_has : (a r : ℕ) → Contains (a ∷ []) r → a ≡ r
lone_has a r (zero, below, is) = is
lone_has a r (suc i, below, is) = absurd (omega (arith, below))

lone_ascends : (a : ℕ) → Ascends (a ∷ [])
lone_ascends a i j x y lt at_i at_j = absurd (let low = slice_get_within (a ∷ []) j y at_j in omega (arith, low))

-- a register is the start or the end
abbrev IsOne : Start → End → ℕ → Type 0
IsOne start end_ r = (start ≡ RegStart r) ⊎ (end_ ≡ RegEnd r)

-- the list has exactly a claim's own registers, ascending
record AreOwn (start : Start) (end_ : End) (regs : List ℕ) : Type 0 where
  few : length regs ≤ 2
  only : (r : ℕ) → Contains regs r → IsOne start end_ r
  all : (r : ℕ) → IsOne start end_ r → Contains regs r
  ascend : Ascends regs

start_is : (a r : ℕ) → RegStart a ≡ RegStart r → a ≡ r
start_is a r e = cc

end_is : (a r : ℕ) → RegEnd a ≡ RegEnd r → a ≡ r
end_is a r e = cc

two_few : (a b : ℕ) (same : Bool) → length (one_or_two a b same) ≤ 2
two_few a b true = omega arith
two_few a b false = omega arith

are_own : (start : Start) (end_ : End) → AreOwn start end_ (own_regs start end_)
are_own (RegStart a) (RegEnd b) = record {
  few = two_few a b (a == b);
  only = λ r has. elim (two_has a b r (a == b) has) [ inl is ↦ inl (ap RegStart is) | inr is ↦ inr (ap RegEnd is) ];
  all = λ r one. elim one [
    | inl is ↦ has_two a b r (a == b) (is_same a b) (inl (start_is a r is))
    | inr is ↦ has_two a b r (a == b) (is_same a b) (inr (end_is b r is))
  ];
  ascend = two_ascend a b (a == b) (is_other a b);
}
are_own (RegStart a) (OutputEnd o) = record {
  few = omega arith;
  only = λ r has. inl (ap RegStart (lone_has a r has));
  all = λ r one. elim one [ inl is ↦ (0, omega arith, start_is a r is) | inr is ↦ absurd cc ];
  ascend = lone_ascends a;
}
are_own (InputStart i) (RegEnd b) = record {
  few = omega arith;
  only = λ r has. inr (ap RegEnd (lone_has b r has));
  all = λ r one. elim one [ inl is ↦ absurd cc | inr is ↦ (0, omega arith, end_is b r is) ];
  ascend = lone_ascends b;
}
are_own (InputStart i) (OutputEnd o) = record {
  few = omega arith;
  only = λ r has. absurd (omega (arith, has.1));
  all = λ r one. elim one [ inl is ↦ absurd cc | inr is ↦ absurd cc ];
  ascend = λ i' j a b lt at_i at_j. absurd cc;
}

-- what comes before one of them is one
own_before : (d : Design) (claim : Claim) (r a : ℕ) → IsNear d claim 0 a → ComesBefore d claim r a → IsNear d claim 0 r
own_before d claim r a near (Nearer level is not_a) = absurd (not_a (near_later d claim 0 level a (omega arith) near))
own_before d claim r a near (Smaller also lt) = also 0 near

-- they are the first level
pub upto_first : (d : Design) (claim : Claim) → IsUpTo d claim 0 (own_regs claim.start claim.end)
upto_first d claim =
    let own = are_own claim.start claim.end in
    let regs : List ℕ = own_regs claim.start claim.end in
    record {
      few = omega (arith, own.few);
      near = own.only;
      ordered = λ i j a b lt at_i at_j.
          Smaller (λ level near. near_later d claim 0 level a (omega arith) (own.only a (has_at regs i a at_i))) (own.ascend i j a b lt at_i at_j);
      closed = λ r a has before. own.all r (own_before d claim r a (own.only a has) before);
      full = λ r short near. own.all r near;
    }

start_low : (d : Design) (start : Start) (r : ℕ) → IsStartIn d start → start ≡ RegStart r → r < length d.regs
start_low d start r fits is = subst (IsStartIn d) is fits

end_low : (d : Design) (end_ : End) (r : ℕ) → IsEndIn d end_ → end_ ≡ RegEnd r → r < length d.regs
end_low d end_ r fits is = subst (IsEndIn d) is fits

-- and registers of the design
pub own_in_range : (d : Design) (start : Start) (end_ : End) → IsStartIn d start → IsEndIn d end_ → AllBelow (length d.regs) (own_regs start end_)
own_in_range d start end_ fits_start fits_end = below_from_contains (length d.regs) (own_regs start end_)
    (λ r has. elim ((are_own start end_).only r has) [
      | inl is ↦ start_low d start r fits_start is
      | inr is ↦ end_low d end_ r fits_end is
    ])
