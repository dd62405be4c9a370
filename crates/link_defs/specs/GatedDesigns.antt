-- The design of a flat netlist with its clock gates, and what a gated register captures.
use Rattle.std.specs.Prelude.{◌≡◌, ℕ, zero, suc, Bool, List, [], ◌∷◌, ◌++◌, length, map, flat_map, Contains, Option, Some, slice_get}
use Rattle.net_model.specs.Form.{Form, ZeroForm, PinForm, OrForm}
use Rattle.net_model.specs.Cycles.{IsSettled, bit_at, reg_capture_in}
use Rattle.net_model.specs.declared.netlist.Design.{Design}
use Rattle.net_model.specs.declared.netlist.Gate.{Gate}
use Rattle.net_model.specs.declared.netlist.Reg.{Reg}
use Rattle.net_model.specs.declared.cycles.Cycle.{Cycle}
use Rattle.icg_rewrite.specs.declared.clock_gates.ClockGate.{ClockGate}
use Rattle.icg_rewrite.specs.declared.clock_gates.Gated.{Gated}
use Rattle.link_defs.specs.declared.circuits.Part.{Part}
use Rattle.link_defs.specs.declared.circuits.Part.TheVariants as part
use Rattle.link_defs.specs.declared.circuits.Circuit.{Circuit}
use Rattle.link_defs.specs.Parts.{folded}
use Rattle.link_defs.specs.Designs.{IsDesignOf, IsSolution, drivers_by, number_by, equations, shows, captured}
use Rattle.link_defs.specs.Above.{Under, Passes}
use Rattle.link_defs.specs.GateOrders.{ClockPart, IsGateOrderOf, place_in, gate_outs}

-- a register of the flat netlist, with the net of its clock pin
pub record Flop : Type 0 where
  pub clock : ℕ
  pub reg : Reg

-- the register that a part is, if it is one
abbrev pub part_flop : Part → List Flop
part_flop (part.Comb buffer ins gates) = []
part_flop (part.Flop clock reg) = (record { clock = clock; reg = reg }) ∷ []
part_flop (part.Gate clock enables out) = []

-- the registers in the order of the parts
abbrev pub flops_of : Circuit → List Flop
flops_of c = flat_map part_flop c.parts

-- 1 where one of the first so many places is
abbrev pub any_of : ℕ → Form
any_of zero = ZeroForm
any_of (suc n) = folded OrForm n

-- a clock gate by the numbers of its nets: it passes where an enable is 1, and what stands above it passes
abbrev pub gate_by : (ℕ → ℕ) → List ClockPart → ClockPart → Option ℕ → ClockGate
gate_by number gates x up = record { func = any_of (length x.enables); ins = map number x.enables; parent = place_in gates up }

-- the design of the flat netlist without its clock gates; these in their order; and which of them each register stands behind
pub record IsGatedOf (c : Circuit) (tree : List Bool) (order : List Gate) (gates : List ClockPart) (g : Gated) : Type 0 where
  pub design : IsDesignOf c tree order g.design
  pub ordered : IsGateOrderOf c gates
  pub long : length g.gates ≡ length gates
  pub each : length g.of ≡ length (flops_of c)
  pub gates_are : (k : ℕ) (x : ClockPart) (up : Option ℕ) → slice_get gates k ≡ Some x → Under c x.clock up
      → slice_get g.gates k ≡ Some (gate_by (number_by (drivers_by c order)) gates x up)
  pub behind : (r : ℕ) (x : Flop) (up : Option ℕ) → slice_get (flops_of c) r ≡ Some x → Under c x.clock up
      → slice_get g.of r ≡ Some (place_in gates up)

-- the nets of the rewritten design by their drivers: after those of the design the enable of each clock gate, by the net that this drives
abbrev pub enabled_drivers : Circuit → List Gate → List ClockPart → List ℕ
enabled_drivers c order gates = drivers_by c order ++ gate_outs gates

-- the register with its own bit in the place of its next state: clear and preset act as before
abbrev pub kept : Reg → Reg
kept reg = record reg { next = PinForm (length reg.ins) }

-- the settled cycles are exactly the solutions; a register captures as the flop does where the clock comes through to it, and else keeps
-- its bit, but for clear and preset
pub record AreGatedSolutions (c : Circuit) (tree : List Bool) (order : List Gate) (d : Design) : Type 0 where
  pub each : (y : Cycle) → IsSettled d y → IsSolution c (equations tree c) y.bits y.ins (shows (drivers_by c order) y)
  pub all : (bits ins : List Bool) (v : ℕ → Bool) → length bits ≡ length d.regs → length ins ≡ length d.inputs → IsSolution c (equations tree c) bits ins v
      → (y : Cycle) × IsSettled d y × (y.bits ≡ bits) × (y.ins ≡ ins)
      × ((net : ℕ) → Contains (drivers_by c order) net → shows (drivers_by c order) y net ≡ v net)
  pub passed : (y : Cycle) (r : ℕ) (x : Flop) (up : Option ℕ) → IsSettled d y → slice_get (flops_of c) r ≡ Some x → Under c x.clock up
      → Passes c (shows (drivers_by c order) y) up
      → reg_capture_in y r (slice_get d.regs r) ≡ captured x.reg (bit_at y.bits r) (shows (drivers_by c order) y)
  pub stopped : (y : Cycle) (r : ℕ) (x : Flop) (up : Option ℕ) → IsSettled d y → slice_get (flops_of c) r ≡ Some x → Under c x.clock up
      → (Passes c (shows (drivers_by c order) y) up → ⊥)
      → reg_capture_in y r (slice_get d.regs r) ≡ captured (kept x.reg) (bit_at y.bits r) (shows (drivers_by c order) y)
