-- Which variables stand in front of a monitor, and what they show in a cycle of a run.
use Rattle.std.specs.Prelude.{◌≡◌, ◌≢◌, ◌↔◌, ℕ, ◌+◌, ◌-◌, ◌<◌, ◌≤◌, Bool, true, false, not, if◌then◌else◌, List, length, Some, slice_get, nat_lt}
use Rattle.net_model.specs.Cycles.{bit_at, capture}
use Rattle.net_model.specs.Layers.{IsLateCapture}
use Rattle.net_model.specs.Judge.{judged_count, start_bit, Toggles}
use Rattle.net_model.specs.Held.{is_held, free_below}
use Rattle.net_model.specs.declared.netlist.Design.{Design}
use Rattle.net_model.specs.declared.cycles.Cycle.{Cycle}
use Rattle.net_model.specs.declared.claims.Claim.{Claim}
use Rattle.net_model.specs.declared.claims.End.{End}
use Rattle.net_model.specs.declared.claims.End.TheVariants.{Reg as RegEnd, Output as OutputEnd}
use Rattle.sdcv_base.specs.declared.kinds.Kind.{Kind}
use Rattle.sdcv_base.specs.declared.kinds.Kind.TheVariants.{False, Multi}
use Rattle.claim_monitor.specs.declared.sizes.Sizes.{Sizes}

-- a multicycle path to an output port has a latch with the capture of the cycle before; a register end is such a latch itself
abbrev pub has_capture : Kind → End → Bool
has_capture False end_ = false
has_capture (Multi k) (RegEnd r) = false
has_capture (Multi k) (OutputEnd o) = true

-- how many variables of each kind there are
abbrev pub sizes_of : Design → Claim → Sizes
sizes_of d claim =
    record {
      inputs = free_below d (length d.inputs);
      regs = length d.regs;
      resets = d.reset_len;
      judged = judged_count claim;
      has_capture = has_capture claim.kind claim.end;
      has_early = claim.early;
    }

-- the sizes speak of this design
pub record AreSizesOf (d : Design) (s : Sizes) : Type 0 where
  pub inputs : s.inputs ≡ free_below d (length d.inputs)
  pub regs : s.regs ≡ length d.regs
  pub resets : s.resets ≡ d.reset_len

-- the sizes of a sound design and a claim that fits it
pub record AreSmall (s : Sizes) : Type 0 where
  pub inputs : s.inputs ≤ 20000
  pub regs : s.regs ≤ 20000
  pub resets : s.resets ≤ 64
  pub judged : s.judged ≤ 16

-- the places in front, from 0: the inputs, each by the number of those before it, then register r, then the latch that is 0 in the
-- first cycles up to cycle i, the one that is 1 where the cycle before was live, the start's bit in the h-th cycle before the last
-- one, the toggle in the k-th cycle before the last one, the capture of the cycle before, and whether that would have been another
-- with the start flipped
abbrev pub reg_place : Sizes → ℕ → ℕ
reg_place s r = s.inputs + r

abbrev pub reset_place : Sizes → ℕ → ℕ
reset_place s i = s.inputs + s.regs + i

abbrev pub live_place : Sizes → ℕ
live_place s = s.inputs + s.regs + s.resets

abbrev pub start_place : Sizes → ℕ → ℕ
start_place s h = live_place s + 1 + h

abbrev pub toggle_place : Sizes → ℕ → ℕ
toggle_place s k = live_place s + 1 + s.judged + k

abbrev pub capture_place : Sizes → ℕ
capture_place s = live_place s + 1 + s.judged + (s.judged - 1)

abbrev pub early_place : Sizes → ℕ
early_place s = capture_place s + (if s.has_capture then 1 else 0)

-- how many latches there are
abbrev pub latch_count : Sizes → ℕ
latch_count s = s.regs + s.resets + 1 + s.judged + (s.judged - 1) + (if s.has_capture then 1 else 0) + (if s.has_early then 1 else 0)

abbrev pub front_count : Sizes → ℕ
front_count s = s.inputs + latch_count s

-- these are the bits of the free inputs in a cycle
pub record AreFreeBits (d : Design) (c : Cycle) (x : List Bool) : Type 0 where
  pub each : (i : ℕ) → i < length d.inputs → is_held d i ≡ false → bit_at x (free_below d i) ≡ bit_at c.ins i

-- the start toggles at t
abbrev pub HasToggle : Design → Claim → List Cycle → ℕ → Type 0
HasToggle d claim run t = (stale : Bool) × Toggles d.reset_len claim.edge claim.start run t stale

-- the late capture with the start flipped differs
abbrev pub DiffersFlipped : Design → Claim → Cycle → Type 0
DiffersFlipped d claim c =
    (late : Bool) × IsLateCapture d claim c (not (start_bit claim.start c)) late × (late ≢ capture d claim.end c)

-- the bits in front show cycle t of a run, and what was before
pub record IsFront (d : Design) (claim : Claim) (run : List Cycle) (t : ℕ) (c : Cycle) (x : List Bool) : Type 0 where
  pub at : slice_get run t ≡ Some c
  pub count : length x ≡ front_count (sizes_of d claim)
  pub inputs : AreFreeBits d c x
  pub regs : (r : ℕ) → r < length d.regs → bit_at x (reg_place (sizes_of d claim) r) ≡ bit_at c.bits r
  -- latch i of the reset is 1 after cycle i
  pub resets : (i : ℕ) → i < d.reset_len → bit_at x (reset_place (sizes_of d claim) i) ≡ nat_lt i t
  pub was_live : bit_at x (live_place (sizes_of d claim)) ≡ nat_lt d.reset_len t
  pub starts : (h : ℕ) (before : Cycle) → h < judged_count claim → h < t → slice_get run (t - 1 - h) ≡ Some before
      → bit_at x (start_place (sizes_of d claim) h) ≡ start_bit claim.start before
  pub toggles : (k : ℕ) → k + 1 < judged_count claim → (bit_at x (toggle_place (sizes_of d claim) k) ≡ true) ↔ HasToggle d claim run (t - (k + 1))
  pub captured : (before : Cycle) → has_capture claim.kind claim.end ≡ true → 0 < t → slice_get run (t - 1) ≡ Some before
      → bit_at x (capture_place (sizes_of d claim)) ≡ capture d claim.end before
  pub early : (before : Cycle) → claim.early ≡ true → 0 < t → slice_get run (t - 1) ≡ Some before
      → (bit_at x (early_place (sizes_of d claim)) ≡ true) ↔ DiffersFlipped d claim before
