-- Runs of a design with clock gates, by what a gated clock edge means.
use Rattle.std.specs.Prelude.{◌≡◌, ℕ, ◌<◌, ◌+◌, Bool, true, false, ◌&&◌, List, length, All, Option, Some, None, slice_get, nat_lt}
use Rattle.net_model.specs.Form.{PinForm, value}
use Rattle.net_model.specs.Cycles.{bit_at, gate_pins, reg_pins, reg_capture, IsSettled, HasFixed, HasResets, IsRun}
use Rattle.net_model.specs.Stimuli.{StandsFor}
use Rattle.net_model.specs.declared.netlist.Design.{Design}
use Rattle.net_model.specs.declared.netlist.Reg.{Reg}
use Rattle.net_model.specs.declared.cycles.Cycle.{Cycle}
use Rattle.net_model.specs.declared.cycles.Stimulus.{Stimulus}
use Rattle.icg_rewrite.specs.declared.clock_gates.ClockGate.{ClockGate}
use Rattle.icg_rewrite.specs.declared.clock_gates.Gated.{Gated}
use Rattle.icg_rewrite.specs.Rewritten.{rewritten}

-- whether the clock comes through to what stands behind this clock gate: the gate's bit, and 1 where there is no gate
abbrev pub passes : List Bool → Option ℕ → Bool
passes row None = true
passes row (Some k) = bit_at row k

-- a bit for each clock gate: it passes where its function of these nets is 1 and its parent, if any, passes
pub record ArePassing (gates : List ClockGate) (nets row : List Bool) : Type 0 where
  pub len : length row ≡ length gates
  pub each : (k : ℕ) (x : ClockGate) → slice_get gates k ≡ Some x → bit_at row k ≡ (value x.func (gate_pins x.ins nets) && passes row x.parent)

-- what a register captures where its clock comes through, or doesn't: then its own bit stands in the place of its next
-- state. Clear and preset act either way
abbrev pub gated_capture : Bool → Reg → (ℕ → Bool) → Bool
gated_capture true reg pins = reg_capture reg pins
gated_capture false reg pins = reg_capture (record reg { next = PinForm (length reg.ins) }) pins

-- the register bits of a cycle are the captures of the cycle before, in which these clock gates pass
pub record IsGatedNext (g : Gated) (before c : Cycle) : Type 0 where
  pub row : List Bool
  pub passing : ArePassing g.gates before.nets row
  pub captured : (r : ℕ) (reg : Reg) (gate : Option ℕ) → slice_get g.design.regs r ≡ Some reg → slice_get g.of r ≡ Some gate
      → bit_at c.bits r ≡ gated_capture (passes row gate) reg (reg_pins reg.ins before.nets (bit_at before.bits r))

-- a run from reset of the design with its clock gates: as a run of the design, but for what gated registers capture
pub record IsGatedRun (g : Gated) (run : List Cycle) : Type 0 where
  pub some : 0 < length run
  pub settled : All (IsSettled g.design) run
  pub next : (t : ℕ) (before c : Cycle) → slice_get run t ≡ Some before → slice_get run (t + 1) ≡ Some c → IsGatedNext g before c
  pub fixed : All (HasFixed g.design) run
  pub resets : (t : ℕ) (c : Cycle) → slice_get run t ≡ Some c → HasResets g.design (nat_lt t g.design.reset_len) c

-- a cycle shows what another shows of the design's registers, inputs and nets
pub record ShowsCycle (d : Design) (c other : Cycle) : Type 0 where
  pub bits : other.bits ≡ c.bits
  pub ins : other.ins ≡ c.ins
  pub nets : (net : ℕ) → net < d.nets → bit_at other.nets net ≡ bit_at c.nets net

-- a run is as long as another, and each of its cycles shows what that of the other shows
pub record ShowSame (d : Design) (run other : List Cycle) : Type 0 where
  pub len : length other ≡ length run
  pub each : (t : ℕ) (c e : Cycle) → slice_get run t ≡ Some c → slice_get other t ≡ Some e → ShowsCycle d c e

-- there is exactly one run of the design with its clock gates that the stimulus stands for, and a run of the rewritten
-- design that it stands for shows the same
pub record HasOneGatedRun (g : Gated) (s : Stimulus) : Type 0 where
  pub run : List Cycle
  pub from_reset : IsGatedRun g run
  pub stands : StandsFor s run
  pub only : (other : List Cycle) → IsGatedRun g other → StandsFor s other → other ≡ run
  pub shown : (other : List Cycle) → IsRun (rewritten g) other → StandsFor s other → ShowSame g.design run other
