-- Judged captures, toggles, bad cycles, and claims that hold.
use Rattle.std.specs.Prelude.{◌≡◌, ◌≢◌, ℕ, ◌<◌, ◌≤◌, ◌+◌, ◌-◌, Bool, true, false, List, [], ◌∷◌, Some, slice_get, ◌⊎◌}
use Rattle.net_model.specs.Cycles.{bit_at, capture, IsRun}
use Rattle.net_model.specs.Layers.{IsLateCapture}
use Rattle.net_model.specs.Ternary.{IsTernaryCapture}
use Rattle.net_model.specs.declared.netlist.Design.{Design}
use Rattle.net_model.specs.declared.cycles.Cycle.{Cycle}
use Rattle.net_model.specs.declared.claims.Claim.{Claim}
use Rattle.net_model.specs.declared.claims.PinRef.{PinRef}
use Rattle.net_model.specs.declared.terns.Tern.TheVariants.{Unknown}
use Rattle.sdcv_base.specs.declared.kinds.Edge.{Edge}
use Rattle.sdcv_base.specs.declared.kinds.Edge.TheVariants.{Any, Rise, Fall}
use Rattle.sdcv_base.specs.declared.kinds.Kind.{Kind}
use Rattle.sdcv_base.specs.declared.kinds.Kind.TheVariants.{False, Multi}
use Rattle.net_model.specs.declared.claims.Start.{Start}
use Rattle.net_model.specs.declared.claims.Start.TheVariants.{Reg as RegStart, Input as InputStart}

-- how many captures from the toggle on are judged: of a false path the first and one for each cycle of its lag; of a multicycle
-- path those of the cycles before the last (Higuchi, DAC 2002)
abbrev pub judged_by : Kind → ℕ → ℕ
judged_by False lag = lag + 1
judged_by (Multi k) lag = k - 1

abbrev pub judged_count : Claim → ℕ
judged_count claim = judged_by claim.kind claim.lag

-- the bit of a start in a cycle
abbrev pub start_bit : Start → Cycle → Bool
start_bit (RegStart r) c = bit_at c.bits r
start_bit (InputStart i) c = bit_at c.ins i

-- the edge of a change from a bit: a rising start was 0 before, a falling one 1
abbrev pub IsEdge : Edge → Bool → Type 0
IsEdge Any stale = Unit {0}
IsEdge Rise stale = stale ≡ false
IsEdge Fall stale = stale ≡ true

-- the start toggles at t, with this edge: cycle t - 1 is live, and the start's bit in it, the stale bit, differs from its bit
-- in t; cycles are live from cycle `live` on
pub record Toggles (live : ℕ) (edge : Edge) (start : Start) (run : List Cycle) (t : ℕ) (stale : Bool) : Type 0 where
  pub before : Cycle
  pub now : Cycle
  pub before_at : slice_get run (t - 1) ≡ Some before
  pub now_at : slice_get run t ≡ Some now
  pub is_live : live + 1 ≤ t
  pub stale_is : start_bit start before ≡ stale
  pub differs : start_bit start now ≢ stale
  pub edge_is : IsEdge edge stale

-- the late capture differs from the capture
abbrev pub DiffersLate : Design → Claim → Cycle → Bool → Type 0
DiffersLate d claim c stale = (late : Bool) × IsLateCapture d claim c stale late × (late ≢ capture d claim.end c)

-- the capture differs from the capture in the cycle before
abbrev pub Changes : Design → Claim → Cycle → Cycle → Type 0
Changes d claim before c = capture d claim.end c ≢ capture d claim.end before

-- the ternary capture is unknown
abbrev pub MayGlitch : Design → Claim → Cycle → Type 0
MayGlitch d claim c = IsTernaryCapture d claim c Unknown

-- bad for a false path: the late capture differs; for a multicycle path: the capture changes, and where the claim has
-- through sets the late capture differs too (Higuchi's condition for pairs, over the judged captures)
abbrev pub IsBadPlain : Kind → List (List PinRef) → Design → Claim → Bool → Cycle → Cycle → Type 0
IsBadPlain False sets d claim stale before c = DiffersLate d claim c stale
IsBadPlain (Multi k) [] d claim stale before c = Changes d claim before c
IsBadPlain (Multi k) (set ∷ sets) d claim stale before c = DiffersLate d claim c stale × Changes d claim before c

-- bad where hazards count: the ternary capture is unknown; for a multicycle path without through sets a change is bad too
abbrev pub IsBadHazard : Kind → List (List PinRef) → Design → Claim → Cycle → Cycle → Type 0
IsBadHazard False sets d claim before c = MayGlitch d claim c
IsBadHazard (Multi k) [] d claim before c = MayGlitch d claim c ⊎ Changes d claim before c
IsBadHazard (Multi k) (set ∷ sets) d claim before c = MayGlitch d claim c

-- a cycle, which comes after another, is bad for the claim, given the stale bit
abbrev pub IsBadFor : Bool → Design → Claim → Bool → Cycle → Cycle → Type 0
IsBadFor false d claim stale before c = IsBadPlain claim.kind claim.through d claim stale before c
IsBadFor true d claim stale before c = IsBadHazard claim.kind claim.through d claim before c

-- bad on the early side of a false path: had the start shown its new bit already in the cycle before its toggle, the capture
-- of that cycle would differ; where hazards count: its ternary capture is unknown
abbrev pub IsEarlyBad : Bool → Design → Claim → Cycle → Cycle → Type 0
IsEarlyBad false d claim before c = DiffersLate d claim before (start_bit claim.start c)
IsEarlyBad true d claim before c = MayGlitch d claim before

-- bad for a claim of this side: of the early one by the cycle before the toggle, of the late one by the judged cycle
abbrev pub IsBadOn : Bool → Bool → Design → Claim → Bool → Cycle → Cycle → Type 0
IsBadOn false hazard d claim stale before c = IsBadFor hazard d claim stale before c
IsBadOn true hazard d claim stale before c = IsEarlyBad hazard d claim before c

-- the claim is violated at t: its start toggles at t, and cycle t + r of the run is bad for some judged r; a claim of the early
-- side has r = 0 alone
pub record IsViolatedAt (live : ℕ) (d : Design) (claim : Claim) (run : List Cycle) (t : ℕ) : Type 0 where
  pub stale : Bool
  pub toggles : Toggles live claim.edge claim.start run t stale
  pub r : ℕ
  pub judged : r < judged_count claim
  pub before : Cycle
  pub c : Cycle
  pub before_at : slice_get run (t + r - 1) ≡ Some before
  pub c_at : slice_get run (t + r) ≡ Some c
  pub bad : IsBadOn claim.early claim.hazard d claim stale before c

-- the claim holds: no run from reset violates it at any t
abbrev pub Holds : Design → Claim → Type 0
Holds d claim = (run : List Cycle) (t : ℕ) → IsRun d run → ¬ IsViolatedAt d.reset_len d claim run t
