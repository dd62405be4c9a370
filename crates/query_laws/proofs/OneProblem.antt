-- A query has one problem: one table of moved nets, one list of needed keys, and one list of clauses in normal form.
use Rattle.std.proofs.Common.{◌≡◌, ℕ, zero, suc, ◌+◌, ◌*◌, ◌/◌, ◌<◌, ◌≤◌, Bool, true, false, List, [], ◌∷◌, map, length, get_or, Some, refl, ap, sym}
use Rattle.std.proofs.Common.{◌∙◌, subst, arith, add-one, inl, inr, ◌⊎◌}
use Rattle.std.specs.Prelude.{Contains, slice_get, slice_index, All, ◌||◌, ◌==◌}
use Rattle.std.proofs.lemmas.Bool.{cases_Bool, cases_eq, eq-eqb, eqb-true, or_left, or_right, or_cases}
use Rattle.std.proofs.lemmas.List.{same_lists, get_or_default}
use Rattle.std.proofs.lemmas.Option.{slice_get_within, get_or_from_slice_get}
use Rattle.net_model.specs.Netlist.{IsSound, IsGateInRange, source_nets}
use Rattle.net_model.specs.Pins.{is_in, start_nets}
use Rattle.net_model.specs.Layers.{net_at, row_at, held_set, layer_pins}
use Rattle.net_model.specs.Queries.{Query, Question, Violates, Breaks}
use Rattle.net_model.proofs.Settling.{All-at}
use Rattle.net_model.proofs.Layered.{pin_kept}
use Rattle.net_model.proofs.LayerRows.{source_low}
use Rattle.net_model.proofs.NetOrder.{over_nets}
use Rattle.net_model.proofs.Members.{In, In-from_Contains, Contains-from_In, in_or}
use Rattle.net_model.specs.declared.netlist.Design.{Design}
use Rattle.net_model.specs.declared.netlist.Gate.{Gate}
use Rattle.net_model.specs.declared.claims.Claim.{Claim}
use Rattle.net_model.specs.declared.claims.PinRef.TheVariants.{Net, GateIn}
use Rattle.query_model.specs.Keys.{IsBelow, ByCycle, ByLayer, ByRail, ByPoint}
use Rattle.query_model.specs.Reads.{any_below, AreMoved}
use Rattle.query_model.specs.Formula.{definitions, asked_clauses, formula_over, AreMovedFor, AreNeeded, IsFormulaOf}
use Rattle.query_model.specs.Variables.{code_of, is_code, IsNormalOf, HasOpposites, AreNormalsOf}
use Rattle.query_model.specs.Laws.{HasOneProblem}
use Rattle.query_model.specs.declared.keys.Key.{Key}
use Rattle.query_model.specs.declared.keys.KeyLit.{KeyLit}
use Rattle.query_model.specs.declared.keys.Coding.{Coding}

-- tests that are the same below a number
any_same : (n : ℕ) (f g : ℕ → Bool) → ((i : ℕ) → i < n → f i ≡ g i) → any_below n f ≡ any_below n g
any_same zero f g same = refl
any_same (suc n) f g same =
    ap (λ (b : Bool). b || f n) (any_same n f g (λ i lt. same i (omega arith))) ∙ ap (λ (b : Bool). any_below n g || b) (same n (omega arith))

-- two tables tell the same of a net in a layer
abbrev SameAt : List (List Bool) → List (List Bool) → ℕ → ℕ → Type 0
SameAt a b l n = net_at false a l n ≡ net_at false b l n

-- and of each net in each layer before
abbrev SameBefore : Design → List (List Bool) → List (List Bool) → ℕ → Type 0
SameBefore d a b l = (m : ℕ) → m < l → (n : ℕ) → n < d.nets → SameAt a b m n

moved_held : (d : Design) (claim : Claim) (a b : List (List Bool)) → AreMoved d claim a → AreMoved d claim b → (l : ℕ) → l ≤ length claim.through
    → SameBefore d a b l → (n : ℕ) → n < d.nets → is_in (Net n) (held_set claim.through l) ≡ true → SameAt a b l n
moved_held d claim a b s t zero le lower n low is = absurd cc
moved_held d claim a b s t (suc l) le lower n low is =
    subst (λ (m : ℕ). SameAt a b m n) (add-one l) (s.held l (omega arith) n low is ∙ (lower l (omega arith) n low ∙ sym (t.held l (omega arith) n low is)))

moved_source : (d : Design) (claim : Claim) (a b : List (List Bool)) → IsSound d → AreMoved d claim a → AreMoved d claim b → (l : ℕ) → l ≤ length claim.through
    → SameBefore d a b l → (n : ℕ) → Contains (source_nets d) n → SameAt a b l n
moved_source d claim a b sound s t zero le lower n has =
    elim (in_or n (start_nets d claim.start)) [
      | inl here ↦
          let start = Contains-from_In (start_nets d claim.start) n here in s.late n start ∙ sym (t.late n start)
      | inr none ↦
          let other : ¬ Contains (start_nets d claim.start) n = λ h. none (In-from_Contains (start_nets d claim.start) n h) in
          s.others n has other ∙ sym (t.others n has other)
    ]
moved_source d claim a b sound s t (suc l) le lower n has =
    elim (cases_Bool (is_in (Net n) (held_set claim.through (suc l)))) [
      | inl is ↦ moved_held d claim a b s t (suc l) le lower n (source_low d n sound has) is
      | inr free ↦ subst (λ (m : ℕ). SameAt a b m n) (add-one l) (s.sources l (omega arith) n has free ∙ sym (t.sources l (omega arith) n has free))
    ]

moved_gate : (d : Design) (claim : Claim) (a b : List (List Bool)) → IsSound d → AreMoved d claim a → AreMoved d claim b → (l : ℕ) → l ≤ length claim.through
    → SameBefore d a b l → (k : ℕ) (g : Gate) → slice_get d.gates k ≡ Some g → All (SameAt a b l) g.ins → SameAt a b l g.out
moved_gate d claim a b sound s t l le lower k g at pins =
    let in_range = All-at (IsGateInRange d) d.gates k g at sound.in_range.gates in
    elim (cases_Bool (is_in (Net g.out) (held_set claim.through l))) [
      | inl is ↦ moved_held d claim a b s t l le lower g.out in_range.out is
      | inr free ↦
          s.gates l le k g at free
          ∙ (any_same (length g.ins) (layer_pins false claim.through a l k g.ins) (layer_pins false claim.through b l k g.ins)
          (λ i lt.
          pin_kept false claim.through a b l (GateIn k i) (slice_index g.ins i)
          (λ m small.
          elim (cases_eq m l) [
            | inl same ↦ subst (λ (x : ℕ). SameAt a b x (slice_index g.ins i)) (sym same) (pins i 0 lt)
            | inr apart ↦ lower m (omega arith) (slice_index g.ins i) (in_range.ins i 0 lt)
          ]))
          ∙ sym (t.gates l le k g at free))
    ]

moved_layer : (d : Design) (claim : Claim) (a b : List (List Bool)) → IsSound d → AreMoved d claim a → AreMoved d claim b → (l : ℕ) → l ≤ length claim.through
    → SameBefore d a b l → (n : ℕ) → n < d.nets → SameAt a b l n
moved_layer d claim a b sound s t l le lower =
    over_nets d (SameAt a b l) sound (moved_source d claim a b sound s t l le lower) (moved_gate d claim a b sound s t l le lower)

moved_before : (d : Design) (claim : Claim) (a b : List (List Bool)) → IsSound d → AreMoved d claim a → AreMoved d claim b → (l : ℕ)
    → l ≤ length claim.through + 1
    → SameBefore d a b l
moved_before d claim a b sound s t zero le m lt n low = absurd (omega arith)
moved_before d claim a b sound s t (suc l) le m lt n low =
    let lower = moved_before d claim a b sound s t l (omega arith) in
    elim (cases_eq m l) [
      | inl same ↦ subst (λ (x : ℕ). SameAt a b x n) (sym same) (moved_layer d claim a b sound s t l (omega arith) lower n low)
      | inr apart ↦ lower m (omega arith) n low
    ]

-- a late start moves the same nets by both tables
moved_once : (d : Design) (claim : Claim) (a b : List (List Bool)) → IsSound d → AreMoved d claim a → AreMoved d claim b → a ≡ b
moved_once d claim a b sound s t = same_lists a b (s.count ∙ sym t.count) row
  where
    same : SameBefore d a b (length claim.through + 1)
    same = moved_before d claim a b sound s t (length claim.through + 1) (omega arith)

    cell : (l : ℕ) → l < length claim.through + 1 → (n : ℕ) (e : Bool) → n < d.nets → length (row_at a l) ≡ d.nets → length (row_at b l) ≡ d.nets
        → get_or (row_at a l) n e ≡ get_or (row_at b l) n e
    cell l lt n e low one other =
        get_or_default (row_at a l) n e false (rw one low) ∙ (same l lt n low ∙ get_or_default (row_at b l) n false e (rw other low))

    row : (l : ℕ) (o : List Bool) → l < length a → get_or a l o ≡ get_or b l o
    row l o within =
        let count_a = s.count in
        let count_b = t.count in
        let one : length (row_at a l) ≡ d.nets = s.lens l [] within in
        let other : length (row_at b l) ≡ d.nets = t.lens l [] (omega arith) in
        get_or_default a l o [] within
        ∙ (same_lists (row_at a l) (row_at b l) (one ∙ sym other) (λ n e lt. cell l (omega arith) n e (omega arith) one other)
        ∙ get_or_default b l [] o (omega arith))

moved_for : (d : Design) (question : Question) (a b : List (List Bool)) → IsSound d → AreMovedFor d question a → AreMovedFor d question b → a ≡ b
moved_for d (Violates claim offset clean) a b sound s t = moved_once d claim a b sound s t
moved_for d (Breaks clause) a b sound s t = s ∙ sym t

-- each item is before the next one
abbrev Rises : {X : Type 0} → (X → X → Type 0) → List X → Type 0
Rises {X} R xs = (i : ℕ) (a b : X) → slice_get xs i ≡ Some a → slice_get xs (i + 1) ≡ Some b → R a b

-- an order in which no item is before itself
record IsOrder {X : Type 0} (R : X → X → Type 0) : Type 0 where
  trans : (a b c : X) → R a b → R b c → R a c
  strict : (a : X) → R a a → ⊥

rises_on : {X : Type 0} (R : X → X → Type 0) (x : X) (xs : List X) → Rises R (x ∷ xs) → Rises R xs
rises_on R x xs rises i a b at then =
    let e : suc i + 1 ≡ suc (i + 1) = omega arith in
    rises (suc i) a b at (ap (slice_get (x ∷ xs)) e ∙ then)

first_before : {X : Type 0} (R : X → X → Type 0) → IsOrder R → (x : X) (xs : List X) → Rises R (x ∷ xs) → (y : X) → In y xs → R x y
first_before R order x [] rises y has = absurd has
first_before R order x (z ∷ zs) rises y (inl here) = subst (R x) here (rises 0 x z refl refl)
first_before R order x (z ∷ zs) rises y (inr later) =
    order.trans x z y (rises 0 x z refl refl) (first_before R order z zs (rises_on R x (z ∷ zs) rises) y later)

-- of two items of a list one is before the other
one_before : {X : Type 0} (R : X → X → Type 0) → IsOrder R → (xs : List X) → Rises R xs → (a b : X) → In a xs → In b xs → (a ≡ b) ⊎ (R a b ⊎ R b a)
one_before R order [] rises a b one other = absurd one
one_before R order (x ∷ xs) rises a b (inl here) (inl there) = inl (sym here ∙ there)
one_before R order (x ∷ xs) rises a b (inl here) (inr there) = inr (inl (subst (λ y. R y b) here (first_before R order x xs rises b there)))
one_before R order (x ∷ xs) rises a b (inr here) (inl there) = inr (inr (subst (λ y. R y a) there (first_before R order x xs rises a here)))
one_before R order (x ∷ xs) rises a b (inr here) (inr there) = one_before R order xs (rises_on R x xs rises) a b here there

-- two lists that rise and have the same items are the same
same_rising : {X : Type 0} (R : X → X → Type 0) → IsOrder R → (xs ys : List X) → Rises R xs → Rises R ys
    → ((k : X) → In k xs → In k ys) → ((k : X) → In k ys → In k xs) → xs ≡ ys
same_rising R order [] [] one other to from = refl
same_rising R order [] (y ∷ ys) one other to from = absurd (from y (inl refl))
same_rising R order (x ∷ xs) [] one other to from = absurd (to x (inl refl))
same_rising {X} R order (x ∷ xs) (y ∷ ys) one other to from =
    let head = heads (to x (inl refl)) (from y (inl refl)) in
    let tail = same_rising R order xs ys (rises_on R x xs one) (rises_on R y ys other)
    (λ k has. rest_of y k ys (to k (inr has)) (λ e. order.strict x (subst (R x) (sym e ∙ sym head) (first_before R order x xs one k has))))
    (λ k has. rest_of x k xs (from k (inr has)) (λ e. order.strict y (subst (R y) (sym e ∙ head) (first_before R order y ys other k has)))) in
    ap (λ (z : X). z ∷ xs) head ∙ ap (λ (zs : List X). y ∷ zs) tail
  where
    heads : (y ≡ x) ⊎ In x ys → (x ≡ y) ⊎ In y xs → x ≡ y
    heads (inl same) back = sym same
    heads (inr there) (inl same) = same
    heads (inr there) (inr here) = absurd (order.strict x (order.trans x y x (first_before R order x xs one y here) (first_before R order y ys other x there)))

    rest_of : (z k : X) (zs : List X) → (z ≡ k) ⊎ In k zs → (z ≡ k → ⊥) → In k zs
    rest_of z k zs (inl same) apart = absurd (apart same)
    rest_of z k zs (inr there) apart = there

below_trans : (a b c : Key) → IsBelow a b → IsBelow b c → IsBelow a c
below_trans a b c (ByCycle xc) (ByCycle yc) = ByCycle (omega arith)
below_trans a b c (ByCycle xc) (ByLayer yc yl) = ByCycle (omega arith)
below_trans a b c (ByCycle xc) (ByRail yc yl yr) = ByCycle (omega arith)
below_trans a b c (ByCycle xc) (ByPoint yc yl yr yp) = ByCycle (omega arith)
below_trans a b c (ByLayer xc xl) (ByCycle yc) = ByCycle (omega arith)
below_trans a b c (ByLayer xc xl) (ByLayer yc yl) = ByLayer (omega arith) (omega arith)
below_trans a b c (ByLayer xc xl) (ByRail yc yl yr) = ByLayer (omega arith) (omega arith)
below_trans a b c (ByLayer xc xl) (ByPoint yc yl yr yp) = ByLayer (omega arith) (omega arith)
below_trans a b c (ByRail xc xl xr) (ByCycle yc) = ByCycle (omega arith)
below_trans a b c (ByRail xc xl xr) (ByLayer yc yl) = ByLayer (omega arith) (omega arith)
below_trans a b c (ByRail xc xl xr) (ByRail yc yl yr) = ByRail (omega arith) (omega arith) (omega arith)
below_trans a b c (ByRail xc xl xr) (ByPoint yc yl yr yp) = ByRail (omega arith) (omega arith) (omega arith)
below_trans a b c (ByPoint xc xl xr xp) (ByCycle yc) = ByCycle (omega arith)
below_trans a b c (ByPoint xc xl xr xp) (ByLayer yc yl) = ByLayer (omega arith) (omega arith)
below_trans a b c (ByPoint xc xl xr xp) (ByRail yc yl yr) = ByRail (omega arith) (omega arith) (omega arith)
below_trans a b c (ByPoint xc xl xr xp) (ByPoint yc yl yr yp) = ByPoint (omega arith) (omega arith) (omega arith) (omega arith)

below_strict : (a : Key) → IsBelow a a → ⊥
below_strict a (ByCycle c) = omega arith
below_strict a (ByLayer c l) = omega arith
below_strict a (ByRail c l r) = omega arith
below_strict a (ByPoint c l r p) = omega arith

-- the needed keys are one list
keys_once : (coding : Coding) (q : Query) (moved : List (List Bool)) (keys others : List Key) → AreNeeded (definitions coding q moved) (asked_clauses q) keys
    → AreNeeded (definitions coding q moved) (asked_clauses q) others → keys ≡ others
keys_once coding q moved keys others one other =
    same_rising IsBelow (record { trans = below_trans; strict = below_strict }) keys others one.ascending other.ascending
    (λ k has. In-from_Contains others k (other.all k (one.needed k (Contains-from_In keys k has))))
    (λ k has. In-from_Contains keys k (one.all k (other.needed k (Contains-from_In others k has))))

-- literals by their variables
abbrev BeforeVar : ℕ → ℕ → Type 0
BeforeVar l m = l / 2 < m / 2

by_var : IsOrder BeforeVar
by_var = record { trans = λ a b c one other. omega arith; strict = λ a same. omega arith }

codes_rise : (lits clause : List ℕ) → IsNormalOf lits clause → Rises BeforeVar clause
codes_rise lits clause normal i a b at then =
    let is_a : slice_index clause i ≡ a = get_or_from_slice_get clause i a 0 at in
    let is_b : slice_index clause (i + 1) ≡ b = get_or_from_slice_get clause (i + 1) b 0 then in
    subst (λ x. a / 2 < x / 2) is_b (subst (λ x. x / 2 < slice_index clause (i + 1) / 2) is_a (normal.ascends i (slice_get_within clause (i + 1) b then)))

in_code : (l : ℕ) (clause : List ℕ) → In l clause → is_code l clause ≡ true
in_code l [] has = absurd has
in_code l (x ∷ xs) (inl here) = or_left (x == l) (is_code l xs) (eq-eqb x l here)
in_code l (x ∷ xs) (inr later) = or_right (x == l) (is_code l xs) (in_code l xs later)

code_in : (l : ℕ) (clause : List ℕ) → is_code l clause ≡ true → In l clause
code_in l [] is = absurd cc
code_in l (x ∷ xs) is =
    elim (or_cases (x == l) (is_code l xs) is) [
      | inl here ↦ inl (eqb-true x l here)
      | inr later ↦ inr (code_in l xs later)
    ]

-- a clause has one normal form
normal_once : (lits c e : List ℕ) → IsNormalOf lits c → IsNormalOf lits e → c ≡ e
normal_once lits c e one other =
    same_rising BeforeVar by_var c e (codes_rise lits c one) (codes_rise lits e other)
    (λ l has. code_in l e (other.same l ∙ (sym (one.same l) ∙ in_code l c has)))
    (λ l has. code_in l c (one.same l ∙ (sym (other.same l) ∙ in_code l e has)))

-- and a clause with complementary literals has none
no_normal : (lits clause : List ℕ) → HasOpposites lits → IsNormalOf lits clause → ⊥
no_normal lits clause (v, pos, neg) normal =
    elim (one_before BeforeVar by_var clause (codes_rise lits clause normal) (2 * v) (2 * v + 1)
    (code_in (2 * v) clause (normal.same (2 * v) ∙ pos)) (code_in (2 * v + 1) clause (normal.same (2 * v + 1) ∙ neg))) [
      | inl same ↦ omega arith
      | inr apart ↦ elim apart [ inl less ↦ omega arith | inr more ↦ omega arith ]
    ]

normals_once : (all cs es : List (List ℕ)) → AreNormalsOf all cs → AreNormalsOf all es → cs ≡ es
normals_once [] [] [] one other = refl
normals_once [] [] (e ∷ es) one other = absurd other
normals_once [] (c ∷ cs) es one other = absurd one
normals_once (lits ∷ rest) [] [] one other = refl
normals_once (lits ∷ rest) [] (e ∷ es) one (inl left) = normals_once rest [] (e ∷ es) one.1 left.1
normals_once (lits ∷ rest) [] (e ∷ es) one (inr taken) = absurd (no_normal lits e one.0 taken.0)
normals_once (lits ∷ rest) (c ∷ cs) [] (inl left) other = normals_once rest (c ∷ cs) [] left.1 other.1
normals_once (lits ∷ rest) (c ∷ cs) [] (inr taken) other = absurd (no_normal lits c other.0 taken.0)
normals_once (lits ∷ rest) (c ∷ cs) (e ∷ es) (inl left) (inl left_too) = normals_once rest (c ∷ cs) (e ∷ es) left.1 left_too.1
normals_once (lits ∷ rest) (c ∷ cs) (e ∷ es) (inl left) (inr taken) = absurd (no_normal lits e left.0 taken.0)
normals_once (lits ∷ rest) (c ∷ cs) (e ∷ es) (inr taken) (inl left) = absurd (no_normal lits c left.0 taken.0)
normals_once (lits ∷ rest) (c ∷ cs) (e ∷ es) (inr taken) (inr taken_too) =
    ap (λ (x : List ℕ). x ∷ cs) (normal_once lits c e taken.0 taken_too.0) ∙ ap (λ (xs : List (List ℕ)). e ∷ xs) (normals_once rest cs es taken.1 taken_too.1)

-- the formulas of a query are one
formula_once : (coding : Coding) (q : Query) (keys others : List Key) (cs es : List (List KeyLit)) → IsSound q.design → IsFormulaOf coding q keys cs
    → IsFormulaOf coding q others es → (keys ≡ others) × (cs ≡ es)
formula_once coding q keys others cs es sound one other =
    let moved : other.moved ≡ one.moved = moved_for q.design q.question other.moved one.moved sound other.are_moved one.are_moved in
    let needed : AreNeeded (definitions coding q one.moved) (asked_clauses q) others =
    subst (λ (m : List (List Bool)). AreNeeded (definitions coding q m) (asked_clauses q) others) moved other.are_needed in
    let same = keys_once coding q one.moved keys others one.are_needed needed in (
      same,
      one.are_clauses
          ∙ (ap (formula_over (definitions coding q one.moved) (asked_clauses q)) same
          ∙ (ap (λ (m : List (List Bool)). formula_over (definitions coding q m) (asked_clauses q) others) (sym moved) ∙ sym other.are_clauses)),
    )

-- a query of a sound design has one problem
pub one_problem : (coding : Coding) (q : Query) → IsSound q.design → HasOneProblem coding q
one_problem coding q sound keys others vars counts cs es one other =
    let same = formula_once coding q keys others one.over_keys other.over_keys sound one.formula other.formula in
    let coded : map (map (code_of keys)) one.over_keys ≡ map (map (code_of others)) other.over_keys =
    ap (λ (ks : List Key). map (map (code_of ks)) one.over_keys) same.0 ∙ ap (map (map (code_of others))) same.1 in (
      same.0,
      one.vars_are ∙ (ap length same.0 ∙ sym other.vars_are),
      normals_once (map (map (code_of others)) other.over_keys) cs es (subst (λ (all : List (List ℕ)). AreNormalsOf all cs) coded one.clauses_are)
          other.clauses_are,
    )
