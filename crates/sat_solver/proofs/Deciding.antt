-- Which variables wait for a decision, through the steps of a search.
use Rattle.std.proofs.Common.{◌≡◌, refl, ℕ, ◌+◌, ◌*◌, ◌<◌, ◌≤◌, ◌⊎◌, true, false, List, [], length, get_or, take, sym, ap, subst, ◌∙◌, inl, inr, arith}
use Rattle.std.proofs.lemmas.Bool.{cases_Bool, cases_lt, both_ways, false_from_ne_true}
use Rattle.proof_log.specs.Literals.{lit_var, literal, negated}
use Rattle.proof_log.specs.Clauses.{is_set}
use Rattle.proof_log.proofs.LiteralLemmas.{negated_even, negated-negated, lit_var-negated, same_var}
use Rattle.proof_log.proofs.Members.{is_set-nil, is_set-take}
use Rattle.decision_heap.specs.Heaps.{Waiting, IsFull, IsSame, IsTaken}
use Rattle.sat_solver.specs.Searches.{AllSet, IsUnset}
use Rattle.sat_solver.specs.Trails.{Trailed, Extends}
use Rattle.sat_solver.specs.Engines.{AreWaiting}
use Rattle.sat_solver.proofs.Trailing.{place_from_member, at_front}

-- where all variables wait, the unset ones do
pub AreWaiting-all : (vars : ℕ) (w : Waiting) → IsFull vars w → AreWaiting vars [] w
AreWaiting-all vars w full = record {
  vars = full.vars;
  waits = λ l u. full.all (lit_var l) (omega (arith, u.in_vars.0)) (omega (arith, u.in_vars.1));
}

-- raising changes nothing
pub AreWaiting-same : (vars : ℕ) (lits : List ℕ) (w new : Waiting) → AreWaiting vars lits w → IsSame w new → AreWaiting vars lits new
AreWaiting-same vars lits w new a s = record {
  vars = s.vars ∙ a.vars;
  waits = λ l u. s.same (lit_var l) ∙ a.waits l u;
}

unset_before : (vars : ℕ) (lits more : List ℕ) (l : ℕ) → ((q : ℕ) → is_set lits q ≡ true → is_set more q ≡ true) → IsUnset vars more l → IsUnset vars lits l
unset_before vars lits more l sub u = record {
  in_vars = u.in_vars;
  not_true = false_from_ne_true _ (λ t. both_ways _ u.not_true (sub l t));
  not_false = false_from_ne_true _ (λ t. both_ways _ u.not_false (sub (negated l) t));
}

-- where more literals are set, the unset ones still wait
pub AreWaiting-more : (vars : ℕ) (lits more : List ℕ) (w : Waiting) → ((q : ℕ) → is_set lits q ≡ true → is_set more q ≡ true)
    → AreWaiting vars lits w → AreWaiting vars more w
AreWaiting-more vars lits more w sub a = record {
  vars = a.vars;
  waits = λ l u. a.waits l (unset_before vars lits more l sub u);
}

-- where the set literals grow, the unset ones still wait
pub AreWaiting-extends : (clauses : List (List ℕ)) (t new : Trailed) (w : Waiting) → Extends clauses t new → AreWaiting t.vars t.lits w
    → AreWaiting new.vars new.lits w
AreWaiting-extends clauses t new w e a =
    let V : ℕ → Type 0 = λ n. AreWaiting n new.lits w in
    subst V (sym e.vars) (AreWaiting-more t.vars t.lits new.lits w
    (λ q t_set. is_set-take (length t.lits) new.lits q (ap (λ xs. is_set xs q) (sym e.lits) ∙ t_set)) a)

-- a variable that is taken out is set, or is set now
pub AreWaiting-taken : (vars : ℕ) (lits more : List ℕ) (w new : Waiting) (var l : ℕ) → AreWaiting vars lits w → IsTaken w new var → lit_var l ≡ var
    → ((q : ℕ) → is_set lits q ≡ true → is_set more q ≡ true) → (is_set more l ≡ true) ⊎ (is_set more (negated l) ≡ true) → AreWaiting vars more new
AreWaiting-taken vars lits more w new var l a taken is sub now = record {
  vars = taken.vars ∙ a.vars;
  waits = λ q u. taken.others (lit_var q) (λ e. set_one q u (same_var q l (e ∙ sym is))) ∙ a.waits q (unset_before vars lits more q sub u);
}
  where
    set_one : (q : ℕ) → IsUnset vars more q → (q ≡ l) ⊎ (q ≡ negated l) → ⊥
    set_one q u (inl e) = elim now [
      | inl t ↦ both_ways _ u.not_true (ap (is_set more) e ∙ t)
      | inr t ↦ both_ways _ u.not_false (ap (λ p. is_set more (negated p)) e ∙ t)
    ]
    set_one q u (inr e) = elim now [
      | inl t ↦ both_ways _ u.not_false (ap (λ p. is_set more (negated p)) e ∙ (ap (is_set more) (negated-negated l) ∙ t))
      | inr t ↦ both_ways _ u.not_true (ap (is_set more) e ∙ t)
    ]

-- where none waits, every variable is set
pub AreWaiting-none : (vars : ℕ) (lits : List ℕ) (w : Waiting) → AreWaiting vars lits w → w.inside ≡ [] → AllSet vars lits
AreWaiting-none vars lits w a none var from to =
    elim (cases_Bool (is_set lits (literal var true))) [
      | inl t ↦ inl t
      | inr f ↦ elim (cases_Bool (is_set lits (literal var false))) [
        | inl t ↦ inr t
        | inr g ↦
            let other : negated (2 * var) ≡ 2 * var + 1 = negated_even (2 * var) (omega arith) in
            let waits = a.waits (2 * var) (record {
              in_vars = (omega arith, omega arith);
              not_true = f;
              not_false = ap (is_set lits) other ∙ g;
            }) in
            absurd (both_ways _ (is_set-nil (lit_var (2 * var))) (sym (ap (λ xs. is_set xs (lit_var (2 * var))) none) ∙ waits))
      ]
    ]

-- the variables from a place on wait again
pub AreWaiting-back : (vars : ℕ) (lits : List ℕ) (from : ℕ) (w new : Waiting) → AreWaiting vars lits w → new.vars ≡ w.vars
    → ((v : ℕ) → is_set w.inside v ≡ true → is_set new.inside v ≡ true)
    → ((i : ℕ) → from ≤ i → i < length lits → is_set new.inside (lit_var (get_or lits i 0)) ≡ true) → AreWaiting vars (take from lits) new
AreWaiting-back vars lits from w new a same keeps back = record {
  vars = same ∙ a.vars;
  waits = λ q u. elim (cases_Bool (is_set lits q)) [
    | inl t ↦ gone q q refl t u.not_true
    | inr f ↦ elim (cases_Bool (is_set lits (negated q))) [
      | inl t ↦ gone q (negated q) (lit_var-negated q) t u.not_false
      | inr g ↦ keeps (lit_var q) (a.waits q (record { in_vars = u.in_vars; not_true = f; not_false = g }))
    ]
  ];
}
  where
    gone : (q p : ℕ) → lit_var p ≡ lit_var q → is_set lits p ≡ true → is_set (take from lits) p ≡ false → is_set new.inside (lit_var q) ≡ true
    gone q p e t f =
        let at = place_from_member lits p t in
        elim (cases_lt at.0 from) [
          | inl lt ↦ absurd (both_ways _ f (ap (is_set (take from lits)) (sym at.2) ∙ at_front lits at.0 from at.1 lt))
          | inr ge ↦ ap (is_set new.inside) (sym (ap lit_var at.2 ∙ e)) ∙ back at.0 ge at.1
        ]
