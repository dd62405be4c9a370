-- Runs in which some input bits are unknown: cycles in three values.
--
-- A gate's output and a register's capture have the common value of all completions of the unknown pins, which is
-- `tern_value` of a function and `cell_value` of a capture.
use Rattle.std.specs.Prelude.{◌≡◌, ℕ, ◌<◌, ◌+◌, Bool, if◌then◌else◌, List, length, All, Option, Some, None, slice_get, slice_index, slice_index_or, nat_lt}
use Rattle.net_model.specs.Cycles.{bit_at, reg_capture}
use Rattle.net_model.specs.Rows.{AreGatesSettled}
use Rattle.net_model.specs.Pins.{start_outs, late_value}
use Rattle.net_model.specs.Fits.{IsStartIn}
use Rattle.net_model.specs.Ternary.{tern_of}
use Rattle.net_model.specs.Splitting.{cell_value, tern_value}
use Rattle.net_model.specs.declared.netlist.Design.{Design}
use Rattle.net_model.specs.declared.netlist.Reg.{Reg}
use Rattle.net_model.specs.declared.netlist.RegOut.{RegOut}
use Rattle.net_model.specs.declared.cycles.Stimulus.{Stimulus}
use Rattle.net_model.specs.declared.claims.Start.{Start}
use Rattle.net_model.specs.declared.claims.Start.TheVariants.{Reg as RegStart, Input as InputStart}
use Rattle.net_model.specs.declared.claims.End.{End}
use Rattle.net_model.specs.declared.claims.End.TheVariants.{Reg as RegEnd, Output as OutputEnd}
use Rattle.net_model.specs.declared.terns.Tern.{Tern}
use Rattle.net_model.specs.declared.terns.Tern.TheVariants.{Zero, One, Unknown}
use Rattle.firm_runs.specs.Frees.{known_bit}
use Rattle.firm_runs.specs.declared.free_bits.FreeBits.{FreeBits}
use Rattle.firm_runs.specs.declared.cycles.Cycle3.{Cycle3}

-- the value at a place of a row
abbrev pub tern_at : List Tern → ℕ → Tern
tern_at row place = slice_index_or row place Zero

-- the other bit, or unknown
abbrev pub complement : Tern → Tern
complement Zero = One
complement One = Zero
complement Unknown = Unknown

-- the value of a start in a cycle
abbrev pub start_value : Start → Cycle3 → Tern
start_value (RegStart r) c = tern_at c.bits r
start_value (InputStart i) c = tern_at c.ins i

-- the nets of a start show this value, or where inverted its complement
abbrev pub ShowsValue : Design → List Tern → Start → Tern → Type 0
ShowsValue d nets s value = All (λ (o : RegOut). tern_at nets o.net ≡ late_value value (complement value) o) (start_outs d s)

-- a value for each register, each input and each net; the nets of registers and inputs show their values, and each gate output
-- is its function of its input nets
pub record IsSettled3 (d : Design) (c : Cycle3) : Type 0 where
  pub bits : length c.bits ≡ length d.regs
  pub ins : length c.ins ≡ length d.inputs
  pub nets : length c.nets ≡ d.nets
  pub starts : (s : Start) → IsStartIn d s → ShowsValue d c.nets s (start_value s c)
  pub gates : AreGatesSettled tern_value Zero d.gates c.nets

-- what the pins of a register read, and at the place after them its own value
abbrev pub reg_pins3 : List ℕ → List Tern → Tern → ℕ → Tern
reg_pins3 ins nets own place = if nat_lt place (length ins) then tern_at nets (slice_index ins place) else own

-- the capture of the register of this number, if there is one
abbrev pub reg_capture3 : Cycle3 → ℕ → Option Reg → Tern
reg_capture3 c r None = Zero
reg_capture3 c r (Some reg) = cell_value (reg_capture reg) (reg_pins3 reg.ins c.nets (tern_at c.bits r))

-- what an end captures in a cycle: a register by its functions, an output port the value of its net
abbrev pub capture3 : Design → End → Cycle3 → Tern
capture3 d (RegEnd r) c = reg_capture3 c r (slice_get d.regs r)
capture3 d (OutputEnd o) c = tern_at c.nets (slice_index d.outputs o)

-- a value for each register: its capture in a cycle
pub record AreCaptures3 (d : Design) (c : Cycle3) (bits : List Tern) : Type 0 where
  pub count : length bits ≡ length d.regs
  pub each : (r : ℕ) → r < length d.regs → tern_at bits r ≡ capture3 d (RegEnd r) c

-- the values of a stimulus's register bits, which are known
pub record AreKnownBits (d : Design) (state : List Bool) (bits : List Tern) : Type 0 where
  pub count : length bits ≡ length d.regs
  pub each : (r : ℕ) → r < length d.regs → tern_at bits r ≡ tern_of (bit_at state r)

-- what is known of each input in cycle t of a stimulus with these bits
pub record AreKnownInputs (d : Design) (free : FreeBits) (t : ℕ) (ins : List Bool) (known : List Tern) : Type 0 where
  pub count : length known ≡ length d.inputs
  pub each : (i : ℕ) → i < length d.inputs → tern_at known i ≡ known_bit d free t i (bit_at ins i)

-- what is known of a stimulus's run: as many settled cycles, which begin with its register bits, have what is known of its
-- input bits, and have in each register the capture of the cycle before
pub record IsKnownRun (d : Design) (free : FreeBits) (s : Stimulus) (run : List Cycle3) : Type 0 where
  pub count : length run ≡ length s.inputs
  pub settled : All (IsSettled3 d) run
  pub state : (c : Cycle3) → slice_get run 0 ≡ Some c → AreKnownBits d s.state c.bits
  pub inputs : (t : ℕ) (c : Cycle3) (ins : List Bool) → slice_get run t ≡ Some c → slice_get s.inputs t ≡ Some ins → AreKnownInputs d free t ins c.ins
  pub next : (t : ℕ) (before c : Cycle3) → slice_get run t ≡ Some before → slice_get run (t + 1) ≡ Some c → AreCaptures3 d before c.bits
