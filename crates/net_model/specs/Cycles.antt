-- Settled cycles, captures, runs from reset and stretches.
use Rattle.std.specs.Prelude.{◌≡◌, ℕ, ◌<◌, ◌+◌, Bool, true, false, not, ◌&&◌, if◌then◌else◌, List, length, All}
use Rattle.std.specs.Prelude.{Option, Some, None, slice_get, slice_index, slice_index_or, nat_lt}
use Rattle.net_model.specs.Form.{Form, value}
use Rattle.net_model.specs.declared.netlist.Design.{Design}
use Rattle.net_model.specs.declared.netlist.Gate.{Gate}
use Rattle.net_model.specs.declared.netlist.Reg.{Reg}
use Rattle.net_model.specs.declared.netlist.RegOut.{RegOut}
use Rattle.net_model.specs.declared.netlist.Fixed.{Fixed}
use Rattle.net_model.specs.declared.cycles.Cycle.{Cycle}
use Rattle.net_model.specs.declared.claims.End.{End}
use Rattle.net_model.specs.declared.claims.End.TheVariants.{Reg as RegEnd, Output as OutputEnd}

-- the bit at a place of a row
abbrev pub bit_at : List Bool → ℕ → Bool
bit_at bits place = slice_index_or bits place false

-- what the pins of a gate read
abbrev pub gate_pins : List ℕ → List Bool → ℕ → Bool
gate_pins ins nets place = bit_at nets (slice_index ins place)

-- what the pins of a register read, and at the place after them its own bit
abbrev pub reg_pins : List ℕ → List Bool → Bool → ℕ → Bool
reg_pins ins nets own place = if nat_lt place (length ins) then gate_pins ins nets place else own

-- what an output net shows of its register's bit: the bit, or where inverted its complement
abbrev pub shown : RegOut → Bool → Bool
shown o bit = if o.inverted then not bit else bit

-- a bit for each register, each input and each net
pub record HasShape (d : Design) (c : Cycle) : Type 0 where
  pub bits : length c.bits ≡ length d.regs
  pub ins : length c.ins ≡ length d.inputs
  pub nets : length c.nets ≡ d.nets

-- each input net is its input's bit, each register output net is the register's bit or its complement, and
-- each gate output is its function of its input nets
pub record IsSettled (d : Design) (c : Cycle) : Type 0 where
  pub shape : HasShape d c
  pub inputs : (i : ℕ) → i < length d.inputs → bit_at c.nets (slice_index d.inputs i) ≡ bit_at c.ins i
  pub regs : (r : ℕ) (reg : Reg) → slice_get d.regs r ≡ Some reg → All (λ (o : RegOut). bit_at c.nets o.net ≡ shown o (bit_at c.bits r)) reg.outs
  pub gates : (k : ℕ) (g : Gate) → slice_get d.gates k ≡ Some g → bit_at c.nets g.out ≡ value g.func (gate_pins g.ins c.nets)

-- the value of a clear or preset function; one that isn't there is 0
abbrev pub value_if_any : Option Form → (ℕ → Bool) → Bool
value_if_any None pins = false
value_if_any (Some f) pins = value f pins

-- what a register captures of what its pins read: where clear and preset are both 1 its stated value, else 0
-- where clear is 1, else 1 where preset is 1, else its next state (Liberty, group ff)
abbrev pub reg_capture : Reg → (ℕ → Bool) → Bool
reg_capture reg pins =
    let clear = value_if_any reg.clear pins in
    let preset = value_if_any reg.preset pins in
    if clear && preset then reg.both else (if clear then false else (if preset then true else value reg.next pins))

-- the capture of the register of this number, if there is one
abbrev pub reg_capture_in : Cycle → ℕ → Option Reg → Bool
reg_capture_in c r None = false
reg_capture_in c r (Some reg) = reg_capture reg (reg_pins reg.ins c.nets (bit_at c.bits r))

-- what an end captures in a cycle: a register by its functions, an output port the bit of its net
abbrev pub capture : Design → End → Cycle → Bool
capture d (RegEnd r) c = reg_capture_in c r (slice_get d.regs r)
capture d (OutputEnd o) c = bit_at c.nets (slice_index d.outputs o)

-- the register bits of a cycle are the captures of the cycle before
abbrev pub IsNext : Design → Cycle → Cycle → Type 0
IsNext d before c = (r : ℕ) → r < length d.regs → bit_at c.bits r ≡ capture d (RegEnd r) before

-- fixed inputs have their values in these input bits
abbrev pub AreFixedKept : Design → List Bool → Type 0
AreFixedKept d ins = All (λ (f : Fixed). bit_at ins f.input ≡ f.value) d.fixed

-- reset inputs are active in these input bits, or else inactive
abbrev pub AreResets : Design → Bool → List Bool → Type 0
AreResets d active ins = All (λ (f : Fixed). bit_at ins f.input ≡ (if active then f.value else not f.value)) d.resets

-- a cycle in which fixed inputs have their values
abbrev pub HasFixed : Design → Cycle → Type 0
HasFixed d c = AreFixedKept d c.ins

-- a cycle in which reset inputs are active, or else inactive
abbrev pub HasResets : Design → Bool → Cycle → Type 0
HasResets d active c = AreResets d active c.ins

-- a non-empty list of settled cycles with fixed inputs kept, the register bits of each being the captures of the
-- cycle before it; those of the first are any
pub record IsLinked (d : Design) (run : List Cycle) : Type 0 where
  pub some : 0 < length run
  pub settled : All (IsSettled d) run
  pub next : (t : ℕ) (before c : Cycle) → slice_get run t ≡ Some before → slice_get run (t + 1) ≡ Some c → IsNext d before c
  pub fixed : All (HasFixed d) run

-- a run from reset: reset inputs are active in the cycles before the reset length, and inactive after
pub record IsRun (d : Design) (run : List Cycle) : Type 0 where
  pub linked : IsLinked d run
  pub resets : (t : ℕ) (c : Cycle) → slice_get run t ≡ Some c → HasResets d (nat_lt t d.reset_len) c

-- a stretch: reset inputs are inactive in every cycle
pub record IsStretch (d : Design) (run : List Cycle) : Type 0 where
  pub linked : IsLinked d run
  pub resets : All (HasResets d false) run
