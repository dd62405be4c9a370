-- Sets of literals with the same members give the same faults.
use Rattle.std.proofs.Common.{◌≡◌, ℕ, ◌+◌, Bool, true, false, not, cond, ◌||◌, eqb, Option, Some, None, List, [], ◌∷◌, ◌++◌, map, take, length}
use Rattle.std.proofs.Common.{get_or, ◌<◌, refl, sym, ap, ◌∙◌, inl, inr, ◌⊎◌, arith}
use Rattle.std.specs.List.{list_any}
use Rattle.std.specs.Ordering.{nat_cmp, is_eq, match_ordering}
use Rattle.std.specs.declared.cmp.Ordering.TheVariants.{Less, Equal, Greater}
use Rattle.std.specs.Cmp.{nat_cmp_is}
use Rattle.std.specs.BTreeSet.{insert_key}
use Rattle.std.specs.BTreeMap.{is_at}
use Rattle.std.proofs.lemmas.Bool.{cases_Bool, cases_eq, cases_lt, eqb-true, eq-eqb, ne_eqb, or_right}
use Rattle.std.proofs.lemmas.List.{map-append, take_more}
use Rattle.proof_log.specs.Literals.{negated}
use Rattle.proof_log.specs.Clauses.{is_set, open_literals}
use Rattle.proof_log.specs.Derivations.{clause_named}
use Rattle.proof_log.specs.Effects.{effect_of, effect_of_open}
use Rattle.proof_log.specs.declared.effects.Effect.{Effect}
use Rattle.proof_log.specs.declared.effects.Effect.TheVariants.{Falsified, Sets, Neither}
use Rattle.proof_log.proofs.Members.{is_set-push, is_set-append, is_set-cons, is_set-nil, or-false}
use Rattle.rup_check.specs.Faults.{hints_fault}

abbrev pub SameMembers : List ℕ → List ℕ → Type 0
SameMembers a b = (q : ℕ) → is_set a q ≡ is_set b q

open_literals-same : (a b clause : List ℕ) → SameMembers a b → open_literals a clause ≡ open_literals b clause
open_literals-same a b [] same = refl
open_literals-same a b (x ∷ xs) same =
    ap (λ t. cond (not t) (x ∷ open_literals a xs) (open_literals a xs)) (same (negated x))
    ∙ ap (λ ys. cond (not (is_set b (negated x))) (x ∷ ys) ys) (open_literals-same a b xs same)

effect_of_open-same : (a b o : List ℕ) → SameMembers a b → effect_of_open a o ≡ effect_of_open b o
effect_of_open-same a b [] same = refl
effect_of_open-same a b (u ∷ []) same = ap (λ t. cond t Neither (Sets u)) (same u)
effect_of_open-same a b (u ∷ (w ∷ more)) same = refl

pub effect_of-same : (a b clause : List ℕ) → SameMembers a b → effect_of a clause ≡ effect_of b clause
effect_of-same a b clause same = ap (effect_of_open a) (open_literals-same a b clause same) ∙ effect_of_open-same a b (open_literals b clause) same

push_same : (a b : List ℕ) (u : ℕ) → SameMembers a b → SameMembers (a ++ u ∷ []) (b ++ u ∷ [])
push_same a b u same q = is_set-push a u q ∙ ap (λ t. t || eqb u q) (same q) ∙ sym (is_set-push b u q)

pub cases_Option : {A : Type 0} (o : Option A) → (o ≡ None) ⊎ ((a : A) × (o ≡ Some a))
cases_Option None = inl refl
cases_Option (Some a) = inr (a, refl)

pub cases_Effect : (e : Effect) → (e ≡ Neither) ⊎ ((e ≡ Falsified) ⊎ ((u : ℕ) × (e ≡ Sets u)))
cases_Effect Neither = inl refl
cases_Effect Falsified = inr (inl refl)
cases_Effect (Sets u) = inr (inr (u, refl))

pub hints_fault-same : (known : List (List ℕ)) (step : ℕ) (a b hints : List ℕ) (place : ℕ) → SameMembers a b
    → hints_fault known step a hints place ≡ hints_fault known step b hints place
hints_fault-same known step a b [] place same = refl
hints_fault-same known step a b (h ∷ hs) place same =
    elim (cases_Option (clause_named known h)) [
      | inl none ↦ rw (none, hints_fault) refl
      | inr some ↦
          let e = effect_of-same a b some.0 same in
          elim (cases_Effect (effect_of b some.0)) [
            | inl n ↦ rw (some.1, hints_fault, e, n) refl
            | inr (inl f) ↦ rw (some.1, hints_fault, e, f) refl
            | inr (inr u) ↦ rw (some.1, hints_fault, e, u.1) (hints_fault-same known step (a ++ u.0 ∷ []) (b ++ u.0 ∷ []) hs (place + 1)
                (push_same a b u.0 same))
          ]
    ]

cmp_less : (x y : ℕ) → x < y → nat_cmp x y ≡ Less
cmp_less x y h = sym (nat_cmp_is x y Less h)

cmp_equal : (x y : ℕ) → x ≡ y → nat_cmp x y ≡ Equal
cmp_equal x y h = sym (nat_cmp_is x y Equal h)

cmp_greater : (x y : ℕ) → y < x → nat_cmp x y ≡ Greater
cmp_greater x y h = sym (nat_cmp_is x y Greater h)

is_at-nat : (l k : ℕ) → is_at (nat_cmp l) k ≡ eqb k l
is_at-nat l k =
    elim (cases_eq l k) [
      | inl e ↦ ap is_eq (cmp_equal l k e) ∙ sym (eq-eqb k l (sym e))
      | inr ne ↦ (elim (cases_lt l k) [
        | inl lt ↦ ap is_eq (cmp_less l k lt)
        | inr ge ↦ ap is_eq (cmp_greater l k (omega arith))
      ]) ∙ sym (ne_eqb k l (λ e. ne (sym e)))
    ]

-- a query of an ordered set asks for membership
pub contains_members : (l : ℕ) (keys : List ℕ) → list_any (is_at (nat_cmp l)) keys ≡ is_set keys l
contains_members l [] = sym (is_set-nil l)
contains_members l (k ∷ ks) =
    ap (λ b. b || list_any (is_at (nat_cmp l)) ks) (is_at-nat l k) ∙ ap (λ b. eqb k l || b) (contains_members l ks) ∙ sym (is_set-cons k ks l)

or_swap : (a b c : Bool) → (a || (b || c)) ≡ (b || (a || c))
or_swap true true c = refl
or_swap true false c = refl
or_swap false true c = refl
or_swap false false c = refl

or_same : (a b : Bool) → (a || b) ≡ (a || (a || b))
or_same true b = refl
or_same false b = refl

-- an ordered set gains the key
pub is_set-insert_key : (keys : List ℕ) (key q : ℕ) → is_set (insert_key nat_cmp keys key) q ≡ (eqb key q || is_set keys q)
is_set-insert_key [] key q = is_set-cons key [] q
is_set-insert_key (x ∷ xs) key q =
    elim (cases_eq key x) [
      | inl e ↦
          ap (λ o. is_set (match_ordering o (key ∷ x ∷ xs) (x ∷ xs) (x ∷ insert_key nat_cmp xs key)) q) (cmp_equal key x e)
          ∙ is_set-cons x xs q ∙ or_same (eqb x q) (is_set xs q) ∙ ap (λ b. eqb x q || b) (sym (is_set-cons x xs q))
          ∙ ap (λ y. eqb y q || is_set (x ∷ xs) q) (sym e)
      | inr ne ↦ elim (cases_lt key x) [
        | inl lt ↦
            ap (λ o. is_set (match_ordering o (key ∷ x ∷ xs) (x ∷ xs) (x ∷ insert_key nat_cmp xs key)) q) (cmp_less key x lt)
            ∙ is_set-cons key (x ∷ xs) q
        | inr ge ↦
            ap (λ o. is_set (match_ordering o (key ∷ x ∷ xs) (x ∷ xs) (x ∷ insert_key nat_cmp xs key)) q) (cmp_greater key x (omega arith))
            ∙ is_set-cons x (insert_key nat_cmp xs key) q ∙ ap (λ b. eqb x q || b) (is_set-insert_key xs key q)
            ∙ or_swap (eqb x q) (eqb key q) (is_set xs q) ∙ ap (λ b. eqb key q || b) (sym (is_set-cons x xs q))
      ]
    ]

or_comm : (a b : Bool) → (a || b) ≡ (b || a)
or_comm true true = refl
or_comm true false = refl
or_comm false true = refl
or_comm false false = refl

or_middle : (a b c : Bool) → ((a || b) || c) ≡ ((a || c) || b)
or_middle true b c = refl
or_middle false true true = refl
or_middle false true false = refl
or_middle false false true = refl
or_middle false false false = refl

-- the two parts of a step's set, where the assignment or the others gain a literal
pub set_assigned : (lits others : List ℕ) (u q : ℕ) → is_set ((lits ++ u ∷ []) ++ others) q ≡ (is_set (lits ++ others) q || eqb u q)
set_assigned lits others u q =
    is_set-append (lits ++ u ∷ []) others q ∙ ap (λ b. b || is_set others q) (is_set-push lits u q)
    ∙ or_middle (is_set lits q) (eqb u q) (is_set others q) ∙ ap (λ b. b || eqb u q) (sym (is_set-append lits others q))

pub set_others : (lits others : List ℕ) (u q : ℕ) → is_set (lits ++ insert_key nat_cmp others u) q ≡ (is_set (lits ++ others) q || eqb u q)
set_others lits others u q =
    is_set-append lits (insert_key nat_cmp others u) q ∙ ap (λ b. is_set lits q || b) (is_set-insert_key others u q ∙ or_comm (eqb u q) (is_set others q))
    ∙ assoc (is_set lits q) (is_set others q) (eqb u q) ∙ ap (λ b. b || eqb u q) (sym (is_set-append lits others q))
  where
    assoc : (a b c : Bool) → (a || (b || c)) ≡ ((a || b) || c)
    assoc true b c = refl
    assoc false b c = refl

-- setting a literal that is set changes nothing
pub set_again : (set : List ℕ) (u q : ℕ) → is_set set u ≡ true → is_set set q ≡ (is_set set q || eqb u q)
set_again set u q h =
    elim (cases_Bool (eqb u q)) [
      | inl t ↦ ap (is_set set) (sym (eqb-true u q t)) ∙ h ∙ sym (or_right (is_set set q) (eqb u q) t)
      | inr f ↦ sym (ap (λ b. is_set set q || b) f ∙ or-false (is_set set q))
    ]

-- what is in neither part is not in the first
pub not_in_first : (lits others : List ℕ) (l : ℕ) → is_set (lits ++ others) l ≡ false → is_set lits l ≡ false
not_in_first lits others l h = first_false (is_set lits l) (is_set others l) (sym (is_set-append lits others l) ∙ h)
  where
    first_false : (a b : Bool) → (a || b) ≡ false → a ≡ false
    first_false true b h = h
    first_false false b h = refl

-- one more literal of the clause is negated
pub negated_more : (set next clause : List ℕ) (i l n : ℕ) → i < length clause → l ≡ get_or clause i 0 → n ≡ negated l
    → SameMembers set (map negated (take i clause)) → ((q : ℕ) → is_set next q ≡ (is_set set q || eqb n q))
    → SameMembers next (map negated (take (i + 1) clause))
negated_more set next clause i l n h l_is n_is same more q =
    more q ∙ ap (λ b. b || eqb n q) (same q)
    ∙ ap (λ m. is_set (map negated (take i clause)) q || eqb m q) (n_is ∙ ap negated l_is)
    ∙ sym (is_set-push (map negated (take i clause)) (negated (get_or clause i 0)) q)
    ∙ ap (λ xs. is_set xs q) (sym (ap (map negated) (take_more clause i 0 h) ∙ map-append negated (take i clause) (get_or clause i 0 ∷ [])))

-- what is not in the first part is there where it is in the second
pub in_others : (lits others : List ℕ) (l : ℕ) → is_set lits l ≡ false → is_set others l ≡ is_set (lits ++ others) l
in_others lits others l h = sym (is_set-append lits others l ∙ ap (λ b. b || is_set others l) h)
