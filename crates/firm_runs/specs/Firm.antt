-- Violations that stand whatever the free inputs do.
use Rattle.std.specs.Prelude.{◌≡◌, ℕ, ◌+◌, ◌-◌, ◌<◌, ◌≤◌, Bool, true, false, not, List, [], ◌∷◌, length, Some, slice_get}
use Rattle.net_model.specs.Cycles.{bit_at, IsRun}
use Rattle.net_model.specs.Judge.{judged_count, IsEdge, IsViolatedAt}
use Rattle.net_model.specs.Ternary.{tern_of}
use Rattle.net_model.specs.declared.netlist.Design.{Design}
use Rattle.net_model.specs.declared.cycles.Cycle.{Cycle}
use Rattle.net_model.specs.declared.cycles.Stimulus.{Stimulus}
use Rattle.net_model.specs.declared.claims.Claim.{Claim}
use Rattle.net_model.specs.declared.claims.PinRef.{PinRef}
use Rattle.net_model.specs.declared.terns.Tern.{Tern}
use Rattle.sdcv_base.specs.declared.kinds.Edge.{Edge}
use Rattle.sdcv_base.specs.declared.kinds.Kind.{Kind}
use Rattle.sdcv_base.specs.declared.kinds.Kind.TheVariants.{False, Multi}
use Rattle.firm_runs.specs.Frees.{is_free, IsSink}
use Rattle.firm_runs.specs.Cycles3.{start_value, capture3, IsKnownRun}
use Rattle.firm_runs.specs.Layers3.{IsLateCapture3}
use Rattle.firm_runs.specs.declared.free_bits.FreeBits.{FreeBits}
use Rattle.firm_runs.specs.declared.cycles.Cycle3.{Cycle3}

-- the run is as long as the stimulus, begins with its register bits, and has its bits of all inputs that are not free
pub record IsRunBesides (d : Design) (free : FreeBits) (s : Stimulus) (run : List Cycle) : Type 0 where
  pub from_reset : IsRun d run
  pub count : length run ≡ length s.inputs
  pub state : (c : Cycle) → slice_get run 0 ≡ Some c → c.bits ≡ s.state
  pub inputs : (t : ℕ) (c : Cycle) (ins : List Bool) (i : ℕ) → slice_get run t ≡ Some c → slice_get s.inputs t ≡ Some ins → i < length d.inputs
      → is_free free i ≡ false → bit_at c.ins i ≡ bit_at ins i

-- the violation is firm: whatever the free inputs do, the claim is violated at t, and its end is no sink
pub record IsFirm (d : Design) (free : FreeBits) (claim : Claim) (s : Stimulus) (t : ℕ) : Type 0 where
  pub violated : (run : List Cycle) → IsRunBesides d free s run → IsViolatedAt d.reset_len d claim run t
  pub no_sink : ¬ IsSink free claim.end

-- both values are known, and they differ
abbrev pub AreApart : Tern → Tern → Type 0
AreApart x y = (b : Bool) × (x ≡ tern_of b) × (y ≡ tern_of (not b))

-- a value is known to change from the stale bit to the other one, with this edge
pub record IsKnownChange (edge : Edge) (before now : Tern) (stale : Bool) : Type 0 where
  pub stale_is : before ≡ tern_of stale
  pub differs : now ≡ tern_of (not stale)
  pub edge_is : IsEdge edge stale

-- the start is known to toggle at t: cycle t - 1 is live, and the start is known to change from it to t
pub record Toggles3 (d : Design) (claim : Claim) (run : List Cycle3) (t : ℕ) (stale : Bool) : Type 0 where
  pub before : Cycle3
  pub now : Cycle3
  pub before_at : slice_get run (t - 1) ≡ Some before
  pub now_at : slice_get run t ≡ Some now
  pub is_live : d.reset_len + 1 ≤ t
  pub change : IsKnownChange claim.edge (start_value claim.start before) (start_value claim.start now) stale

-- the late capture is known to differ from the capture
abbrev pub DiffersLate3 : Design → Claim → Cycle3 → Bool → Type 0
DiffersLate3 d claim c stale = (late : Tern) × IsLateCapture3 d claim c stale late × AreApart late (capture3 d claim.end c)

-- the capture is known to differ from the capture in the cycle before
abbrev pub Changes3 : Design → Claim → Cycle3 → Cycle3 → Type 0
Changes3 d claim before c = AreApart (capture3 d claim.end c) (capture3 d claim.end before)

-- known to be bad on the late side, where hazards don't count
abbrev pub IsLateBad3 : Kind → List (List PinRef) → Design → Claim → Bool → Cycle3 → Cycle3 → Type 0
IsLateBad3 False sets d claim stale before c = DiffersLate3 d claim c stale
IsLateBad3 (Multi k) [] d claim stale before c = Changes3 d claim before c
IsLateBad3 (Multi k) (set ∷ sets) d claim stale before c = DiffersLate3 d claim c stale × Changes3 d claim before c

-- known to be bad for a claim of this side: of the early one by the cycle before the toggle, in which the start shows the bit
-- that it toggles to; of the late one by the judged cycle
abbrev pub IsBad3 : Bool → Design → Claim → Bool → Cycle3 → Cycle3 → Type 0
IsBad3 false d claim stale before c = IsLateBad3 claim.kind claim.through d claim stale before c
IsBad3 true d claim stale before c = DiffersLate3 d claim before (not stale)

-- the start is known to toggle at t, and cycle t + r is known to be bad for some judged r, where hazards don't count
pub record IsKnownViolated (d : Design) (claim : Claim) (run : List Cycle3) (t : ℕ) : Type 0 where
  pub stale : Bool
  pub toggles : Toggles3 d claim run t stale
  pub r : ℕ
  pub judged : r < judged_count claim
  pub before : Cycle3
  pub c : Cycle3
  pub before_at : slice_get run (t + r - 1) ≡ Some before
  pub c_at : slice_get run (t + r) ≡ Some c
  pub bad : IsBad3 claim.early d claim stale before c

-- the violation is shown firm by three values: what is known of the run, the bits of free inputs being unknown, is violated at
-- t, and the claim's end is no sink
pub record IsShownFirm (d : Design) (free : FreeBits) (claim : Claim) (s : Stimulus) (t : ℕ) : Type 0 where
  pub run : List Cycle3
  pub known : IsKnownRun d free s run
  pub violated : IsKnownViolated d claim run t
  pub no_sink : ¬ IsSink free claim.end
