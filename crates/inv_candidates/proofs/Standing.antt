-- Clauses that are listed stand once, and name registers of the design.
use Rattle.std.proofs.Common.{arith, ◌≡◌, ◌==◌, ◌∙◌, append_assoc, append-nil, ℕ, zero, suc, ◌<◌, Bool, true, false, List, [], ◌∷◌, ◌++◌, length, take}
use Rattle.std.proofs.Common.{refl, sym, subst, inl, inr, Contains, flat_map, All, if◌then◌else◌, nat_lt}
use Rattle.std.proofs.lemmas.Bool.Decides.{nat_tests}
use Rattle.std.proofs.lemmas.List.Elements.{Contains-append_left, Contains-append_right, Contains-append_cases, Contains-push_cases}
use Rattle.std.proofs.lemmas.List.Elements.{All-nil, All-cons, All-append, All-contains}
use Rattle.net_model.specs.Netlist.{AllBelow}
use Rattle.net_model.specs.declared.netlist.Design.{Design}
use Rattle.net_model.specs.declared.invariants.StateLit.{StateLit}
use Rattle.net_model.specs.declared.invariants.InvClause.{InvClause}
use Rattle.net_model.specs.Fits.{NamesRegs}
use Rattle.verdicts.specs.Inductive.{StandOnce}
use Rattle.inv_candidates.specs.Clauses.{lit, one_of, two_of, single_clauses, pair_clauses, all_pairs, group_clauses}
use Rattle.inv_candidates.specs.Listing.{AddsNew, No_more, Stands, Is_new}

-- an item that is the first
first_item : {A : Type 0} (x : A) (xs : List A) → Contains (x ∷ xs) x
first_item x xs = (0, omega arith, refl)

is_zero : (n : ℕ) → (n == 0) ≡ true → n ≡ 0
is_zero n none = grind (arith, nat_tests)

lone : {A : Type 0} (x y : A) → Contains (x ∷ []) y → x ≡ y
lone x y (zero, below, is) = is
lone x y (suc i, below, is) = absurd (omega (arith, below))

-- one more that does not stand there
once_push : (xs : List InvClause) (x : InvClause) → StandOnce xs → (Contains xs x → ⊥) → StandOnce (xs ++ x ∷ [])
once_push [] x once fresh = (fresh, tt)
once_push (y ∷ ys) x (alone, once) fresh = (
  (λ has. elim (Contains-push_cases ys x y has) [
    | inl earlier ↦ alone earlier
    | inr same ↦ fresh (subst (Contains (y ∷ ys)) (sym same) (first_item y ys))
  ]),
  once_push ys x once (λ has. fresh (Contains-append_right (y ∷ []) ys x has)),
)

-- what is added stands once
pub adds_once : (old xs new : List InvClause) → AddsNew old xs new → StandOnce old → StandOnce new
adds_once _ _ _ (No_more listed) once = once
adds_once _ _ _ (Stands listed x xs new has rest) once = adds_once listed xs new rest once
adds_once _ _ _ (Is_new listed x xs new fresh rest) once = adds_once (listed ++ x ∷ []) xs new rest (once_push listed x once fresh)

-- an item that stands again after those that were listed
not_again : (listed : List InvClause) (x : InvClause) (more : List InvClause) → StandOnce (listed ++ x ∷ more) → Contains listed x → ⊥
not_again [] x more once has = absurd (omega (arith, has.1))
not_again (y ∷ ys) x more (alone, once) has = elim (Contains-append_cases (y ∷ []) ys x has) [
  | inl first ↦ alone (subst (Contains (ys ++ x ∷ more)) (sym (lone y x first)) (Contains-append_right ys (x ∷ more) x (first_item x more)))
  | inr later ↦ not_again ys x more once later
]

-- clauses that stand once are added as they are
adds_same : (old xs new : List InvClause) → AddsNew old xs new → StandOnce (old ++ xs) → new ≡ old ++ xs
adds_same _ _ _ (No_more listed) once = sym (append-nil listed)
adds_same _ _ _ (Stands listed x xs new has rest) once = absurd (not_again listed x xs once has)
adds_same _ _ _ (Is_new listed x xs new fresh rest) once =
    adds_same (listed ++ x ∷ []) xs new rest (subst StandOnce (sym (append_assoc listed (x ∷ []) xs)) once) ∙ append_assoc listed (x ∷ []) xs

-- nothing is added where there is nothing
pub adds_where_empty : (own extra : List InvClause) → (length extra == 0) ≡ true → AddsNew own extra own
adds_where_empty own [] none = No_more own
adds_where_empty own (x ∷ xs) none = absurd (let zero_of = is_zero (length (x ∷ xs)) none in omega (arith, zero_of))

-- what is added to a table of the own clauses is added to them
pub adds_after_own : (own extra none slice first second : List InvClause) → StandOnce own → none ≡ [] → slice ≡ own → AddsNew none slice first
    → AddsNew first extra second → AddsNew own extra second
adds_after_own own extra none slice first second once empty same adds more =
    let begun : AddsNew [] own first =
    subst (λ (l : List InvClause). AddsNew [] l first) same (subst (λ (l : List InvClause). AddsNew l slice first) empty adds) in
    subst (λ (l : List InvClause). AddsNew l extra second) (adds_same [] own first begun once) more

taken_has : (n : ℕ) (xs : List InvClause) (x : InvClause) → Contains (take n xs) x → Contains xs x
taken_has zero xs x has = absurd (omega (arith, has.1))
taken_has (suc n) [] x has = absurd (omega (arith, has.1))
taken_has (suc n) (y ∷ ys) x has = elim (Contains-append_cases (y ∷ []) (take n ys) x has) [
  | inl first ↦ Contains-append_left (y ∷ []) ys x first
  | inr later ↦ Contains-append_right (y ∷ []) ys x (taken_has n ys x later)
]

pub once_take : (n : ℕ) (xs : List InvClause) → StandOnce xs → StandOnce (take n xs)
once_take zero xs once = tt
once_take (suc n) [] once = tt
once_take (suc n) (y ∷ ys) (alone, once) = ((λ has. alone (taken_has n ys y has)), once_take n ys once)

-- a clause of one literal
one_names : (d : Design) (r : ℕ) (value : Bool) → r < length d.regs → NamesRegs d (one_of r value)
one_names d r value low = All-cons (λ (l : StateLit). l.reg < length d.regs) (lit r value) [] low (All-nil (λ (l : StateLit). l.reg < length d.regs))

both_names : (d : Design) (a b : StateLit) → a.reg < length d.regs → b.reg < length d.regs → NamesRegs d (record { lits = a ∷ b ∷ [] })
both_names d a b low high =
    let Low : StateLit → Type 0 = λ (l : StateLit). l.reg < length d.regs in
    All-cons Low a (b ∷ []) low (All-cons Low b [] high (All-nil Low))

two_by : (d : Design) (a b : StateLit) (test : Bool) → a.reg < length d.regs → b.reg < length d.regs
    → NamesRegs d (if test then record { lits = a ∷ b ∷ [] } else record { lits = b ∷ a ∷ [] })
two_by d a b true low high = both_names d a b low high
two_by d a b false low high = both_names d b a high low

two_names : (d : Design) (r : ℕ) (value : Bool) (s : ℕ) (other : Bool) → r < length d.regs → s < length d.regs → NamesRegs d (two_of r value s other)
two_names d r value s other low high = two_by d (lit r value) (lit s other) (nat_lt r s) low high

single_names : (d : Design) (r : ℕ) → r < length d.regs → All (NamesRegs d) (single_clauses r)
single_names d r low =
    All-cons (NamesRegs d) (one_of r false) (one_of r true ∷ []) (one_names d r false low)
    (All-cons (NamesRegs d) (one_of r true) [] (one_names d r true low) (All-nil (NamesRegs d)))

pair_names : (d : Design) (r s : ℕ) → r < length d.regs → s < length d.regs → All (NamesRegs d) (pair_clauses r s)
pair_names d r s low high =
    let P : InvClause → Type 0 = NamesRegs d in
    All-cons P (two_of r false s false) (two_of r false s true ∷ two_of r true s false ∷ two_of r true s true ∷ []) (two_names d r false s false low high)
    (All-cons P (two_of r false s true) (two_of r true s false ∷ two_of r true s true ∷ []) (two_names d r false s true low high)
    (All-cons P (two_of r true s false) (two_of r true s true ∷ []) (two_names d r true s false low high)
    (All-cons P (two_of r true s true) [] (two_names d r true s true low high) (All-nil P))))

-- what holds of each part holds of the whole
pub all_flat : (P : InvClause → Type 0) (f : ℕ → List InvClause) (xs : List ℕ) → ((x : ℕ) → Contains xs x → All P (f x)) → All P (flat_map f xs)
all_flat P f [] each = All-nil P
all_flat P f (x ∷ xs) each =
    All-append P (f x) (flat_map f xs) (each x (first_item x xs)) (all_flat P f xs (λ y has. each y (Contains-append_right (x ∷ []) xs y has)))

pairs_names : (d : Design) (group : List ℕ) → ((r : ℕ) → Contains group r → r < length d.regs) → All (NamesRegs d) (all_pairs group)
pairs_names d [] low = All-nil (NamesRegs d)
pairs_names d (r ∷ rs) low =
    All-append (NamesRegs d) (flat_map (pair_clauses r) rs) (all_pairs rs)
    (all_flat (NamesRegs d) (pair_clauses r) rs
    (λ s has. pair_names d r s (low r (first_item r rs)) (low s (Contains-append_right (r ∷ []) rs s has))))
    (pairs_names d rs (λ s has. low s (Contains-append_right (r ∷ []) rs s has)))

-- the clauses of a group of registers of the design
pub group_names : (d : Design) (group : List ℕ) → AllBelow (length d.regs) group → All (NamesRegs d) (group_clauses group)
group_names d group below =
    let low : (r : ℕ) → Contains group r → r < length d.regs = λ r has. All-contains (λ n. n < length d.regs) group r below has in
    All-append (NamesRegs d) (flat_map single_clauses group) (all_pairs group)
    (all_flat (NamesRegs d) single_clauses group (λ r has. single_names d r (low r has))) (pairs_names d group low)
