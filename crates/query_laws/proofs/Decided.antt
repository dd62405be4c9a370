-- Violations by toggles and alternatives, in either mode.
use Rattle.std.proofs.Common.{◌≡◌, ◌≢◌, ℕ, ◌+◌, ◌-◌, ◌<◌, ◌≤◌, Bool, true, false, List, [], ◌∷◌, length, Some, refl, sym, ◌∙◌, arith, inl, inr, ◌⊎◌, subst}
use Rattle.std.specs.Prelude.{slice_get}
use Rattle.std.proofs.lemmas.Bool.{cond-true, cond-false}
use Rattle.net_model.specs.Form.{xor}
use Rattle.net_model.specs.Judge.{judged_count, start_bit, IsEdge, IsBadOn, IsViolatedAt}
use Rattle.net_model.specs.declared.netlist.Design.{Design}
use Rattle.net_model.specs.declared.cycles.Cycle.{Cycle}
use Rattle.net_model.specs.declared.claims.Claim.{Claim}
use Rattle.sdcv_base.specs.declared.kinds.Edge.{Edge}
use Rattle.sdcv_base.specs.declared.kinds.Edge.TheVariants.{Any, Rise, Fall}
use Rattle.query_model.specs.Keys.{lit, lit_value, below}
use Rattle.query_model.specs.Defined.{toggle_key}
use Rattle.query_model.specs.Formula.{early_alternatives, late_alternatives, alternatives_at, alternatives}
use Rattle.net_model.proofs.Members.{In, In-flat, from_flat}
use Rattle.query_model.proofs.Members.{In-below, below_less}
use Rattle.query_model.proofs.Based.{get_within}
use Rattle.query_laws.proofs.Extras.{ExtrasTold, is_edge}
use Rattle.query_model.specs.declared.keys.Key.{Key}
use Rattle.query_model.specs.declared.keys.KeyLit.{KeyLit}

-- bits that differ
pub xor_ne : (a b : Bool) → xor a b ≡ true → a ≢ b
xor_ne true true e f = absurd cc
xor_ne true false e f = absurd cc
xor_ne false true e f = absurd cc
xor_ne false false e f = absurd cc

pub ne_xor : (a b : Bool) → a ≢ b → xor a b ≡ true
ne_xor true true f = absurd (f refl)
ne_xor true false f = refl
ne_xor false true f = refl
ne_xor false false f = absurd (f refl)

-- a toggle with an edge
pub edge_ne : (edge : Edge) (now before : Bool) → is_edge edge now before ≡ true → (now ≢ before) × IsEdge edge before
edge_ne Any now before e = (xor_ne now before e, tt)
edge_ne Rise true true e = absurd cc
edge_ne Rise true false e = (λ f. absurd cc, refl)
edge_ne Rise false before e = absurd cc
edge_ne Fall true before e = absurd cc
edge_ne Fall false true e = (λ f. absurd cc, refl)
edge_ne Fall false false e = absurd cc

pub ne_edge : (edge : Edge) (now before : Bool) → now ≢ before → IsEdge edge before → is_edge edge now before ≡ true
ne_edge Any now before ne is = ne_xor now before ne
ne_edge Rise true true ne is = absurd (ne refl)
ne_edge Rise true false ne is = refl
ne_edge Rise false true ne is = absurd cc
ne_edge Rise false false ne is = absurd (ne refl)
ne_edge Fall true true ne is = absurd (ne refl)
ne_edge Fall true false ne is = absurd cc
ne_edge Fall false true ne is = refl
ne_edge Fall false false ne is = absurd (ne refl)

pub same_or_not : (a b : Bool) → (a ≡ b) ⊎ (a ≢ b)
same_or_not true true = inl refl
same_or_not true false = inr (λ e. absurd cc)
same_or_not false true = inr (λ e. absurd cc)
same_or_not false false = inl refl

-- all literals of a list are true
abbrev pub AllHold : (Key → Bool) → List KeyLit → Type 0
AllHold v ls = (l : KeyLit) → In l ls → lit_value v l ≡ true

pub lit_holds : (v : Key → Bool) (z : Key) (l : KeyLit) → lit true z ≡ l → v z ≡ true → lit_value v l ≡ true
lit_holds v z l same e = subst (λ (m : KeyLit). lit_value v m ≡ true) same e

pub only_holds : (v : Key → Bool) (z : Key) → v z ≡ true → AllHold v (lit true z ∷ [])
only_holds v z e l (inl here) = lit_holds v z l here e
only_holds v z e l (inr none) = absurd none

pub first_in : {X : Type 0} {x y : X} → In x (y ∷ []) → y ≡ x
first_in (inl here) = here
first_in (inr none) = absurd none

-- a toggle at t, and a judged cycle r later
pub record Moment (claim : Claim) (run : List Cycle) (t r : ℕ) (a b before c : Cycle) : Type 0 where
  pub at_a : slice_get run (t - 1) ≡ Some a
  pub at_b : slice_get run t ≡ Some b
  pub at_before : slice_get run (t + r - 1) ≡ Some before
  pub at_c : slice_get run (t + r) ≡ Some c
  pub low : 1 ≤ t
  pub judged : r < judged_count claim

abbrev pub KindOfAll : (Key → Type 0) → List (List KeyLit) → Type 0
KindOfAll kind alts = (alt : List KeyLit) (l : KeyLit) → In alt alts → In l alt → kind l.key

-- the alternatives of a claim by its side
pub late_side : (d : Design) (claim : Claim) (t r : ℕ) → claim.early ≡ false → alternatives_at d claim t r ≡ late_alternatives d claim t r
late_side d claim t r side = cond-false claim.early (early_alternatives d t) (late_alternatives d claim t r) side

pub early_side : (d : Design) (claim : Claim) (t r : ℕ) → claim.early ≡ true → alternatives_at d claim t r ≡ early_alternatives d t
early_side d claim t r side = cond-true claim.early (early_alternatives d t) (late_alternatives d claim t r) side

-- the alternatives of a claim say which judged cycles are bad
pub record IsDecided (kind : Key → Type 0) (d : Design) (claim : Claim) (run : List Cycle) (differs : ℕ → Bool) : Type 0 where
  pub bad : (v : Key → Bool) (t r : ℕ) (a b before c : Cycle) (alt : List KeyLit) → ExtrasTold kind v d claim run differs
      → Moment claim run t r a b before c → start_bit claim.start b ≢ start_bit claim.start a → KindOfAll kind (alternatives_at d claim t r)
      → In alt (alternatives_at d claim t r) → AllHold v alt → IsBadOn claim.early claim.hazard d claim (start_bit claim.start a) before c
  pub good : (t r : ℕ) (a b before c : Cycle) → Moment claim run t r a b before c → KindOfAll kind (alternatives_at d claim t r)
      → IsBadOn claim.early claim.hazard d claim (start_bit claim.start a) before c → (alt : List KeyLit) × In alt (alternatives_at d claim t r)
      × ((v : Key → Bool) → ExtrasTold kind v d claim run differs → AllHold v alt)
  pub some : (t r : ℕ) → (alt : List KeyLit) × In alt (alternatives_at d claim t r)

kinds_at : (kind : Key → Type 0) (d : Design) (claim : Claim) (t r : ℕ) → r < judged_count claim → KindOfAll kind (alternatives d claim t)
    → KindOfAll kind (alternatives_at d claim t r)
kinds_at kind d claim t r lt kinds alt l in_alt in_l =
    kinds alt l (In-flat (alternatives_at d claim t) alt r (below (judged_count claim)) (In-below (judged_count claim) r lt) in_alt) in_l

-- a toggle and an alternative that holds are a violation
pub holds_violated : (kind : Key → Type 0) (v : Key → Bool) (d : Design) (claim : Claim) (run : List Cycle) (differs : ℕ → Bool) (live t : ℕ)
    (alt : List KeyLit) → IsDecided kind d claim run differs → ExtrasTold kind v d claim run differs → live + 1 ≤ t
    → t + judged_count claim ≤ length run → kind (toggle_key d t) → KindOfAll kind (alternatives d claim t) → v (toggle_key d t) ≡ true
    → In alt (alternatives d claim t) → AllHold v alt → IsViolatedAt live d claim run t
holds_violated kind v d claim run differs live t alt is extras low fits toggle_kind kinds toggle in_alts hold =
    let of = from_flat (alternatives_at d claim t) alt (below (judged_count claim)) in_alts in
    let r = of.0 in
    let lt = below_less (judged_count claim) r of.1 in
    let a = get_within run (t - 1) (omega arith) in
    let b = get_within run t (omega arith) in
    let before = get_within run (t + r - 1) (omega arith) in
    let c = get_within run (t + r) (omega arith) in
    let change = edge_ne claim.edge (start_bit claim.start b.0) (start_bit claim.start a.0)
    (sym (extras.toggle t a.0 b.0 a.1 b.1 toggle_kind) ∙ toggle) in
    let ne = change.0 in
    let at : Moment claim run t r a.0 b.0 before.0 c.0 = record { at_a = a.1; at_b = b.1; at_before = before.1; at_c = c.1; low = omega arith; judged = lt } in
    record {
      stale = start_bit claim.start a.0;
      toggles = record { before = a.0; now = b.0; before_at = a.1; now_at = b.1; is_live = low; stale_is = refl; differs = ne; edge_is = change.1 };
      r = r;
      judged = lt;
      before = before.0;
      c = c.0;
      before_at = before.1;
      c_at = c.1;
      bad = is.bad v t r a.0 b.0 before.0 c.0 alt extras at ne (kinds_at kind d claim t r lt kinds) of.2 hold;
    }

-- and a violation has both
pub violated_holds : (kind : Key → Type 0) (d : Design) (claim : Claim) (run : List Cycle) (differs : ℕ → Bool) (live t : ℕ)
    → IsDecided kind d claim run differs → kind (toggle_key d t) → KindOfAll kind (alternatives d claim t) → IsViolatedAt live d claim run t
    → ((v : Key → Bool) → ExtrasTold kind v d claim run differs → v (toggle_key d t) ≡ true)
    × ((alt : List KeyLit) × In alt (alternatives d claim t) × ((v : Key → Bool) → ExtrasTold kind v d claim run differs → AllHold v alt))
violated_holds kind d claim run differs live t is toggle_kind kinds bad =
    let tog = bad.toggles in
    let r = bad.r in
    let ne : start_bit claim.start tog.now ≢ start_bit claim.start tog.before = λ e. tog.differs (e ∙ tog.stale_is) in
    let at : Moment claim run t r tog.before tog.now bad.before bad.c =
    record { at_a = tog.before_at; at_b = tog.now_at; at_before = bad.before_at; at_c = bad.c_at; low = omega (arith, tog.is_live); judged = bad.judged } in
    let found = is.good t r tog.before tog.now bad.before bad.c at (kinds_at kind d claim t r bad.judged kinds)
    (subst (λ (s : Bool). IsBadOn claim.early claim.hazard d claim s bad.before bad.c) (sym tog.stale_is) bad.bad) in (
      λ v extras. extras.toggle t tog.before tog.now tog.before_at tog.now_at toggle_kind ∙ ne_edge claim.edge (start_bit claim.start tog.now)
          (start_bit claim.start tog.before) ne (subst (IsEdge claim.edge) (sym tog.stale_is) tog.edge_is),
      (
        found.0,
        In-flat (alternatives_at d claim t) found.0 r (below (judged_count claim)) (In-below (judged_count claim) r bad.judged)
            found.1,
        found.2,
      ),
    )
