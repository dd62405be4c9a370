-- What a query asks, a cycle at a time.
use Rattle.std.proofs.Common.{◌≡◌, ℕ, zero, suc, ◌+◌, ◌*◌, ◌≤◌, ◌<◌, Bool, true, false, List, [], ◌∷◌, ◌++◌, length, take, flat_map, Some, refl, ap}
use Rattle.std.proofs.Common.{◌∙◌, arith, length-append, append_assoc}
use Rattle.std.proofs.lemmas.Grind.{flat_map-append}
use Rattle.std.specs.Prelude.{slice_get}
use Rattle.net_model.specs.Judge.{judged_by, judged_count}
use Rattle.net_model.specs.Fits.{Fits, IsKindFit, IsLagFit}
use Rattle.net_model.specs.declared.netlist.Design.{Design}
use Rattle.net_model.specs.declared.claims.Claim.{Claim}
use Rattle.sdcv_base.specs.declared.kinds.Kind.{Kind}
use Rattle.sdcv_base.specs.declared.kinds.Kind.TheVariants.{False, Multi}
use Rattle.net_model.specs.declared.claims.PinRef.{PinRef}
use Rattle.query_model.specs.Keys.{lit, below}
use Rattle.query_model.specs.Defined.{numbered, bad_key}
use Rattle.net_model.specs.Queries.{live_of, only_in_step, claim_query}
use Rattle.net_model.specs.declared.invariants.InvClause.{InvClause}
use Rattle.net_model.specs.declared.queries.Phase.{Phase}
use Rattle.query_model.specs.Formula.{plain_alternatives, hazard_alternatives, late_alternatives, alternatives_at}
use Rattle.query_model.specs.Formula.{kept_in, clean_clauses, bad_clauses, asked_clauses}
use Rattle.query_model.specs.declared.keys.KeyLit.{KeyLit}
use Rattle.query_model.specs.Formula.{some_chosen, chosen_clauses, all_chosen}
use Rattle.frame_unroll.proofs.Numbering.{numbered-take}

pub below_more : (n : ℕ) → below (n + 1) ≡ below n ++ n ∷ []
below_more n = let e : n + 1 ≡ suc n = omega arith in ap below e

append_nil : {X : Type 0} (xs : List X) → xs ++ [] ≡ xs
append_nil [] = refl
append_nil (x ∷ xs) = ap (λ ys. x ∷ ys) (append_nil xs)

-- one number more
pub flat_map-below : {X : Type 0} (f : ℕ → List X) (n : ℕ) → flat_map f (below (n + 1)) ≡ flat_map f (below n) ++ f n
flat_map-below f n = ap (flat_map f) (below_more n) ∙ flat_map-append f (below n) (n ∷ []) ∙ ap (λ xs. flat_map f (below n) ++ xs) (append_nil (f n))

by_kind : (kind : Kind) (lag : ℕ) → IsKindFit kind → IsLagFit kind lag → judged_by kind lag ≤ 15
by_kind False lag fit few = omega (arith, few)
by_kind (Multi k) lag fit none = omega (arith, fit.0, fit.1)

-- a fitting claim judges at most 15 captures
pub judged_few : (d : Design) (claim : Claim) → Fits d claim → judged_count claim ≤ 15
judged_few d claim fits = by_kind claim.kind claim.lag fits.kind fits.lag

plain_few : (kind : Kind) (sets : List (List PinRef)) (d : Design) (c r : ℕ) → length (plain_alternatives kind sets d c r) ≤ 2
plain_few False sets d c r = omega arith
plain_few (Multi k) [] d c r = omega arith
plain_few (Multi k) (set ∷ sets) d c r = omega arith

hazard_few : (kind : Kind) (sets : List (List PinRef)) (d : Design) (c : ℕ) → length (hazard_alternatives kind sets d c) ≤ 2
hazard_few False sets d c = omega arith
hazard_few (Multi k) [] d c = omega arith
hazard_few (Multi k) (set ∷ sets) d c = omega arith

late_few : (b : Bool) (d : Design) (claim : Claim) (t r : ℕ) → claim.hazard ≡ b → length (late_alternatives d claim t r) ≤ 2
late_few true d claim t r e = rw e (hazard_few claim.kind claim.through d (t + r))
late_few false d claim t r e = rw e (plain_few claim.kind claim.through d (t + r) r)

at_few : (b : Bool) (d : Design) (claim : Claim) (t r : ℕ) → claim.early ≡ b → length (alternatives_at d claim t r) ≤ 2
at_few true d claim t r e = rw e (omega arith)
at_few false d claim t r e = rw e (late_few claim.hazard d claim t r refl)

-- at most two alternatives a capture
pub below_few : (d : Design) (claim : Claim) (t n : ℕ) → length (flat_map (alternatives_at d claim t) (below n)) ≤ 2 * n
below_few d claim t zero = omega arith
below_few d claim t (suc n) =
    omega (
      arith,
      ap length (flat_map-append (alternatives_at d claim t) (below n) (n ∷ [])),
      length-append (flat_map (alternatives_at d claim t) (below n)) (alternatives_at d claim t n ++ []),
      ap length (append_nil (alternatives_at d claim t n)),
      at_few claim.early d claim t n refl,
      below_few d claim t n,
    )

some_at : {X : Type 0} (xs : List X) (i : ℕ) → i < length xs → (x : X) × (slice_get xs i ≡ Some x)
some_at [] i lt = absurd (omega (arith, lt))
some_at (x ∷ xs) zero lt = (x, refl)
some_at (x ∷ xs) (suc i) lt = some_at xs i (omega (arith, lt))

-- one alternative more
pub some_chosen-take : (d : Design) (t : ℕ) (found : List (List KeyLit)) (a : ℕ) → a < length found
    → some_chosen d t (take (a + 1) found) ≡ some_chosen d t (take a found) ++ lit true (bad_key d t a) ∷ []
some_chosen-take d t found a lt =
    let at = some_at found a lt in
    numbered-take (λ b (conditions : List KeyLit). lit true (bad_key d t b)) found a at.0 at.1

pub all_chosen-take : (d : Design) (t : ℕ) (found : List (List KeyLit)) (a : ℕ) (conditions : List KeyLit) → slice_get found a ≡ Some conditions
    → all_chosen d t (take (a + 1) found) ≡ all_chosen d t (take a found) ++ chosen_clauses d t a conditions
all_chosen-take d t found a conditions at =
    ap (flat_map (λ x. x)) (numbered-take (chosen_clauses d t) found a conditions at) ∙ flat_map-append (λ x. x)
    (numbered (chosen_clauses d t) 0 (take a found)) (chosen_clauses d t a conditions ∷ [])
    ∙ ap (λ xs. all_chosen d t (take a found) ++ xs) (append_nil (chosen_clauses d t a conditions))

-- the kept clauses, those that a claim is not violated before, and those that it is, put one after another
pub claim_asked_are : (d : Design) (claim : Claim) (phase : Phase) (depth : ℕ) (inv : List InvClause) (live kept_below clean : ℕ)
    (kept before all : List (List KeyLit)) → live ≡ live_of d phase → kept_below ≡ (claim_query d claim phase depth inv).kept_below
    → clean ≡ only_in_step phase depth → kept ≡ flat_map (kept_in d inv) (below kept_below)
    → before ≡ kept ++ flat_map (λ o. clean_clauses d claim (live + 1 + o)) (below clean)
    → all ≡ before ++ bad_clauses d claim (live + 1 + depth) → all ≡ asked_clauses (claim_query d claim phase depth inv)
claim_asked_are d claim phase depth inv live kept_below clean kept before all live_is kept_below_is clean_is kept_is before_is all_is =
    all_is ∙ ap (λ xs. xs ++ bads live) (before_is ∙ ap (λ xs. xs ++ cleans live clean) kept_is)
    ∙ append_assoc (keeps kept_below) (cleans live clean) (bads live) ∙ ap (λ n. keeps n ++ (cleans live clean ++ bads live)) kept_below_is
    ∙ ap (λ n. keeps (claim_query d claim phase depth inv).kept_below ++ (cleans live n ++ bads live)) clean_is
    ∙ ap (λ n. keeps (claim_query d claim phase depth inv).kept_below ++ (cleans n (only_in_step phase depth) ++ bads n)) live_is
  where
    keeps : ℕ → List (List KeyLit)
    keeps n = flat_map (kept_in d inv) (below n)

    cleans : ℕ → ℕ → List (List KeyLit)
    cleans l n = flat_map (λ o. clean_clauses d claim (l + 1 + o)) (below n)

    bads : ℕ → List (List KeyLit)
    bads l = bad_clauses d claim (l + 1 + depth)
