-- What the bits in front tell of toggles and bad cycles of a run.
use Rattle.std.proofs.Common.{◌≡◌, ◌≢◌, ℕ, zero, suc, ◌<◌, ◌+◌, ◌-◌, Bool, true, false, ◌&&◌, List, get_or, Some, refl, ap, sym, ◌∙◌, subst, arith}
use Rattle.std.specs.Prelude.{slice_get, nat_lt}
use Rattle.std.proofs.lemmas.Bool.{lt-ltb}
use Rattle.std.proofs.lemmas.Option.{slice_get_within, slice_get-get_or, same_Some}
use Rattle.net_model.specs.Form.{xor}
use Rattle.net_model.specs.Cycles.{bit_at, capture, IsRun}
use Rattle.net_model.specs.Judge.{judged_count, start_bit, IsEdge}
use Rattle.net_model.specs.declared.netlist.Design.{Design}
use Rattle.net_model.specs.declared.cycles.Cycle.{Cycle}
use Rattle.net_model.specs.declared.claims.Claim.{Claim}
use Rattle.net_model.specs.declared.claims.End.{End}
use Rattle.net_model.specs.declared.claims.End.TheVariants.{Reg as RegEnd, Output as OutputEnd}
use Rattle.sdcv_base.specs.declared.kinds.Edge.{Edge}
use Rattle.sdcv_base.specs.declared.kinds.Edge.TheVariants.{Any, Rise, Fall}
use Rattle.sdcv_base.specs.declared.kinds.Kind.TheVariants.{Multi}
use Rattle.claim_monitor.specs.Fronts.{sizes_of, live_place, start_place, has_capture, HasToggle, IsFront}
use Rattle.claim_monitor.specs.Tells.{edge_bit, toggle_bit, toggled, captured}

pub and_parts : (a b : Bool) → (a && b) ≡ true → (a ≡ true) × (b ≡ true)
and_parts true b e = (refl, e)
and_parts false b e = cc

pub and_made : (a b : Bool) → a ≡ true → b ≡ true → (a && b) ≡ true
and_made a b x y = rw (x, y) refl

pub xor_differs : (a b : Bool) → xor a b ≡ true → a ≢ b
xor_differs true true e same = cc
xor_differs true false e same = cc
xor_differs false true e same = cc
xor_differs false false e same = cc

pub differs_xor : (a b : Bool) → a ≢ b → xor a b ≡ true
differs_xor true true apart = absurd (apart refl)
differs_xor true false apart = refl
differs_xor false true apart = refl
differs_xor false false apart = absurd (apart refl)

edge_holds : (edge : Edge) (stale : Bool) → edge_bit edge stale ≡ true → IsEdge edge stale
edge_holds Any stale e = tt
edge_holds Rise true e = cc
edge_holds Rise false e = refl
edge_holds Fall stale e = e

holds_edge : (edge : Edge) (stale : Bool) → IsEdge edge stale → edge_bit edge stale ≡ true
holds_edge Any stale is = refl
holds_edge Rise stale is = rw is refl
holds_edge Fall stale is = is

-- a number is below another where the test says so
below_where : (m n : ℕ) → nat_lt m n ≡ true → m < n
below_where m n e = grind (arith, Rattle.std.proofs.lemmas.Bool.Decides.nat_tests)

-- the cycle before
pub before_is : (run : List Cycle) (t : ℕ) (c : Cycle) → slice_get run t ≡ Some c → (before : Cycle) × (slice_get run (t - 1) ≡ Some before)
before_is run t c at =
    let low = slice_get_within run t c at in
    (get_or run (t - 1) c, slice_get-get_or run (t - 1) c (omega arith))

-- an earlier cycle
earlier_is : (run : List Cycle) (t h : ℕ) (c : Cycle) → slice_get run t ≡ Some c → (before : Cycle) × (slice_get run (t - h) ≡ Some before)
earlier_is run t h c at =
    let low = slice_get_within run t c at in
    (get_or run (t - h) c, slice_get-get_or run (t - h) c (omega arith))

-- the toggle bit tells the toggle of this cycle
pub toggle_tells : (d : Design) (claim : Claim) (run : List Cycle) (t : ℕ) (c : Cycle) (x : List Bool) → 0 < judged_count claim
    → IsFront d claim run t c x → toggle_bit (sizes_of d claim) claim.edge claim.start x c ≡ true → HasToggle d claim run t
toggle_tells d claim run t c x some front is =
    let s = sizes_of d claim in
    let stale = bit_at x (start_place s 0) in
    let parts = and_parts (bit_at x (live_place s)) (xor (start_bit claim.start c) stale && edge_bit claim.edge stale) is in
    let more = and_parts (xor (start_bit claim.start c) stale) (edge_bit claim.edge stale) parts.1 in
    let live : d.reset_len < t = below_where d.reset_len t (sym front.was_live ∙ parts.0) in
    let before = before_is run t c front.at in
    let same_place : t - 1 - 0 ≡ t - 1 = omega arith in
    let shows : stale ≡ start_bit claim.start before.0 =
    front.starts 0 before.0 some (omega arith) (ap (slice_get run) same_place ∙ before.1) in (
      stale,
      record {
        before = before.0;
        now = c;
        before_at = before.1;
        now_at = front.at;
        is_live = omega arith;
        stale_is = sym shows;
        differs = xor_differs (start_bit claim.start c) stale more.0;
        edge_is = edge_holds claim.edge stale more.1;
      },
    )

-- and is 1 where the start toggles
pub toggle_told : (d : Design) (claim : Claim) (run : List Cycle) (t : ℕ) (c : Cycle) (x : List Bool) → 0 < judged_count claim
    → IsFront d claim run t c x → HasToggle d claim run t → toggle_bit (sizes_of d claim) claim.edge claim.start x c ≡ true
toggle_told d claim run t c x some front has =
    let s = sizes_of d claim in
    let bit = bit_at x (start_place s 0) in
    let toggles = has.1 in
    let same_place : t - 1 - 0 ≡ t - 1 = omega arith in
    let positive : 0 < t = let live = toggles.is_live in omega arith in
    let shows : bit ≡ has.0 =
    front.starts 0 toggles.before some positive (ap (slice_get run) same_place ∙ toggles.before_at) ∙ toggles.stale_is in
    let now : toggles.now ≡ c = same_Some toggles.now c (sym toggles.now_at ∙ front.at) in
    let live : bit_at x (live_place s) ≡ true = front.was_live ∙ lt-ltb d.reset_len t (let is = toggles.is_live in omega arith) in
    let apart : start_bit claim.start c ≢ bit =
    λ same. toggles.differs (ap (start_bit claim.start) now ∙ (same ∙ shows)) in
    and_made (bit_at x (live_place s)) (xor (start_bit claim.start c) bit && edge_bit claim.edge bit) live
    (and_made (xor (start_bit claim.start c) bit) (edge_bit claim.edge bit) (differs_xor (start_bit claim.start c) bit apart)
    (holds_edge claim.edge bit (subst (IsEdge claim.edge) (sym shows) toggles.edge_is)))

-- the toggles of the cycles before
pub toggled_tells : (d : Design) (claim : Claim) (run : List Cycle) (t : ℕ) (c : Cycle) (x : List Bool) (r : ℕ) → r < judged_count claim
    → IsFront d claim run t c x → toggled (sizes_of d claim) claim.edge claim.start x c r ≡ true → HasToggle d claim run (t - r)
toggled_tells d claim run t c x zero low front is =
    let e : t - 0 ≡ t = omega arith in
    rw e (toggle_tells d claim run t c x low front is)
toggled_tells d claim run t c x (suc k) low front is =
    let e : k + 1 ≡ suc k = omega arith in
    subst (λ (n : ℕ). HasToggle d claim run (t - n)) e ((front.toggles k (omega arith)).0 is)

pub toggled_told : (d : Design) (claim : Claim) (run : List Cycle) (t : ℕ) (c : Cycle) (x : List Bool) (r : ℕ) → r < judged_count claim
    → IsFront d claim run t c x → HasToggle d claim run (t - r) → toggled (sizes_of d claim) claim.edge claim.start x c r ≡ true
toggled_told d claim run t c x zero low front has =
    let e : t - 0 ≡ t = omega arith in
    toggle_told d claim run t c x low front (rw e at has)
toggled_told d claim run t c x (suc k) low front has =
    let e : suc k ≡ k + 1 = omega arith in
    (front.toggles k (omega arith)).1 (subst (λ (n : ℕ). HasToggle d claim run (t - n)) e has)

-- the capture of the cycle before
pub captured_is : (d : Design) (claim : Claim) (run : List Cycle) (t : ℕ) (c before : Cycle) (x : List Bool) → IsRun d run → 0 < t
    → Rattle.net_model.specs.Fits.IsEndIn d claim.end
    → slice_get run (t - 1) ≡ Some before → (k : ℕ) → claim.kind ≡ Multi k → IsFront d claim run t c x
    → captured (sizes_of d claim) claim.end x c ≡ capture d claim.end before
captured_is d claim run t c before x is positive in_range at k multi front = by claim.end refl in_range
  where
    by : (end_ : End) → claim.end ≡ end_ → Rattle.net_model.specs.Fits.IsEndIn d end_ → captured (sizes_of d claim) end_ x c ≡ capture d end_ before
    by (RegEnd r) same low =
        let e : t ≡ t - 1 + 1 = omega arith in
        is.linked.next (t - 1) before c at (ap (slice_get run) (sym e) ∙ front.at) r low
    by (OutputEnd o) same low =
        let has : has_capture claim.kind claim.end ≡ true = rw (multi, same) refl in
        front.captured before has positive at ∙ ap (λ (e : End). capture d e before) same
