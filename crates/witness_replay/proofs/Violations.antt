-- When a run is violated at a toggle, and at which first.
use Rattle.std.proofs.Common.{◌≡◌, ◌≢◌, ℕ, ◌+◌, ◌-◌, ◌<◌, ◌≤◌, Bool, List, length, min, Some, ap, sym, ◌∙◌, subst, arith}
use Rattle.std.specs.Prelude.{slice_get}
use Rattle.std.proofs.lemmas.Option.{slice_get_within, same_Some}
use Rattle.net_model.specs.Judge.{judged_count, start_bit, IsEdge, IsBadOn, IsViolatedAt}
use Rattle.net_model.specs.declared.netlist.Design.{Design}
use Rattle.net_model.specs.declared.cycles.Cycle.{Cycle}
use Rattle.net_model.specs.declared.claims.Claim.{Claim}

-- the capture after r more cycles is bad
pub record IsBadAt (d : Design) (claim : Claim) (run : List Cycle) (t : ℕ) (stale : Bool) (r : ℕ) : Type 0 where
  pub before : Cycle
  pub c : Cycle
  pub before_at : slice_get run (t + r - 1) ≡ Some before
  pub c_at : slice_get run (t + r) ≡ Some c
  pub bad : IsBadOn claim.early claim.hazard d claim stale before c

pub bad_at : (d : Design) (claim : Claim) (run : List Cycle) (t : ℕ) (stale : Bool) (r : ℕ) (before c : Cycle)
    → slice_get run (t + r - 1) ≡ Some before → slice_get run (t + r) ≡ Some c → IsBadOn claim.early claim.hazard d claim stale before c
    → IsBadAt d claim run t stale r
bad_at d claim run t stale r before c before_at c_at bad = record { before = before; c = c; before_at = before_at; c_at = c_at; bad = bad }

-- the two cycles of a captured bit are those of the run
pub bad_gives : (d : Design) (claim : Claim) (run : List Cycle) (t : ℕ) (stale : Bool) (r : ℕ) (before c : Cycle)
    → slice_get run (t + r - 1) ≡ Some before → slice_get run (t + r) ≡ Some c → IsBadAt d claim run t stale r
    → IsBadOn claim.early claim.hazard d claim stale before c
bad_gives d claim run t stale r before c before_at c_at bad =
    let first : bad.before ≡ before = same_Some bad.before before (sym bad.before_at ∙ before_at) in
    let second : bad.c ≡ c = same_Some bad.c c (sym bad.c_at ∙ c_at) in
    subst (λ (x : Cycle). IsBadOn claim.early claim.hazard d claim stale before x) second
    (subst (λ (x : Cycle). IsBadOn claim.early claim.hazard d claim stale x bad.c) first bad.bad)

pub not_live : (d : Design) (claim : Claim) (run : List Cycle) (t live : ℕ) → t ≤ live → ¬ IsViolatedAt live d claim run t
not_live d claim run t live le v = omega (arith, v.toggles.is_live)

-- the stale bit of a violation is the start's bit in the cycle before
stale_of : (d : Design) (claim : Claim) (run : List Cycle) (t live : ℕ) (before : Cycle) (v : IsViolatedAt live d claim run t)
    → slice_get run (t - 1) ≡ Some before → start_bit claim.start before ≡ v.stale
stale_of d claim run t live before v at =
    let same : before ≡ v.toggles.before = same_Some before v.toggles.before (sym at ∙ v.toggles.before_at) in
    ap (start_bit claim.start) same ∙ v.toggles.stale_is

pub not_toggled : (d : Design) (claim : Claim) (run : List Cycle) (t live : ℕ) (before now : Cycle) → slice_get run (t - 1) ≡ Some before
    → slice_get run t ≡ Some now → start_bit claim.start now ≡ start_bit claim.start before → ¬ IsViolatedAt live d claim run t
not_toggled d claim run t live before now before_at now_at same v =
    let here : now ≡ v.toggles.now = same_Some now v.toggles.now (sym now_at ∙ v.toggles.now_at) in
    v.toggles.differs (ap (start_bit claim.start) (sym here) ∙ (same ∙ stale_of d claim run t live before v before_at))

-- a change with another edge is no toggle of the claim
pub other_edge : (d : Design) (claim : Claim) (run : List Cycle) (t live : ℕ) (before : Cycle) (stale : Bool) → slice_get run (t - 1) ≡ Some before
    → stale ≡ start_bit claim.start before → ¬ IsEdge claim.edge stale → ¬ IsViolatedAt live d claim run t
other_edge d claim run t live before stale before_at stale_is other v =
    let same : v.stale ≡ stale = sym (stale_of d claim run t live before v before_at) ∙ sym stale_is in
    other (subst (IsEdge claim.edge) same v.toggles.edge_is)

pub violated_from : (d : Design) (claim : Claim) (run : List Cycle) (t live : ℕ) (before now : Cycle) (stale : Bool) (r : ℕ) → live < t
    → slice_get run (t - 1) ≡ Some before → slice_get run t ≡ Some now → stale ≡ start_bit claim.start before → start_bit claim.start now ≢ stale
    → IsEdge claim.edge stale → r < judged_count claim → IsBadAt d claim run t stale r → IsViolatedAt live d claim run t
violated_from d claim run t live before now stale r is_live before_at now_at stale_is differs edge_is judged bad =
    record {
      stale = stale;
      toggles =
          record {
            before = before;
            now = now;
            before_at = before_at;
            now_at = now_at;
            is_live = omega arith;
            stale_is = sym stale_is;
            differs = differs;
            edge_is = edge_is;
          };
      r = r;
      judged = judged;
      before = bad.before;
      c = bad.c;
      before_at = bad.before_at;
      c_at = bad.c_at;
      bad = bad.bad;
    }

pub none_bad : (d : Design) (claim : Claim) (run : List Cycle) (t live : ℕ) (before : Cycle) (stale : Bool) (count : ℕ)
    → count ≡ min (judged_count claim) (length run - t) → slice_get run (t - 1) ≡ Some before → stale ≡ start_bit claim.start before
    → ((q : ℕ) → q < count → ¬ IsBadAt d claim run t stale q) → ¬ IsViolatedAt live d claim run t
none_bad d claim run t live before stale count is before_at stale_is none v =
    let same : v.stale ≡ stale = sym (stale_of d claim run t live before v before_at) ∙ sym stale_is in
    let within = slice_get_within run (t + v.r) v.c v.c_at in
    none v.r (omega (arith, v.judged, within, is))
    (record {
      before = v.before;
      c = v.c;
      before_at = v.before_at;
      c_at = v.c_at;
      bad = subst (λ (bit : Bool). IsBadOn claim.early claim.hazard d claim bit v.before v.c) same v.bad;
    })
