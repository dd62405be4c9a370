-- The equations of a flat netlist, its design, and solutions.
use Rattle.std.specs.Prelude.{◌≡◌, ℕ, ◌<◌, Bool, false, not, ◌&&◌, nat_eq, nat_lt, if◌then◌else◌, List, [], ◌++◌, length, map, filter, flat_map, All}
use Rattle.std.specs.Prelude.{Contains, slice_get, slice_index, slice_index_or, Some, Ok}
use Rattle.std.specs.List.{list_any, position_or_len}
use Rattle.sdcv_base.specs.Seqs.{is_marked}
use Rattle.graph_order.specs.Orders.{order_of}
use Rattle.net_model.specs.Form.{ZeroForm, value}
use Rattle.net_model.specs.Netlist.{reg_nets, gate_nets}
use Rattle.net_model.specs.Cycles.{IsSettled, bit_at, shown, reg_capture, reg_capture_in}
use Rattle.net_model.specs.declared.netlist.Design.{Design}
use Rattle.net_model.specs.declared.netlist.Gate.{Gate}
use Rattle.net_model.specs.declared.netlist.Reg.{Reg}
use Rattle.net_model.specs.declared.netlist.RegOut.{RegOut}
use Rattle.net_model.specs.declared.cycles.Cycle.{Cycle}
use Rattle.link_defs.specs.declared.circuits.Part.{Part}
use Rattle.link_defs.specs.declared.circuits.Part.TheVariants as part
use Rattle.link_defs.specs.declared.circuits.Circuit.{Circuit}
use Rattle.link_defs.specs.Circuits.{regs_of, all_gates, IsTree}

-- a buffer or inverter of the clock tree
abbrev pub is_on_tree : List Bool → Part → Bool
is_on_tree tree (part.Comb buffer ins gates) = buffer && list_any (λ (net : ℕ). slice_index_or tree net false) ins
is_on_tree tree (part.Flop clock reg) = false
is_on_tree tree (part.Gate clock enables out) = false

-- the gates of a part, but none of the clock tree's
abbrev pub kept_gates : List Bool → Part → List Gate
kept_gates tree (part.Comb buffer ins gates) = if is_on_tree tree (part.Comb buffer ins gates) then [] else gates
kept_gates tree (part.Flop clock reg) = []
kept_gates tree (part.Gate clock enables out) = []

-- each output of a cell or primitive, each constant and each assigned bit gives one equation, and one gate
abbrev pub equations : List Bool → Circuit → List Gate
equations tree c = flat_map (kept_gates tree) c.parts

-- the gate at a place
abbrev pub no_gate : Gate
no_gate = record { func = ZeroForm; ins = []; out = 0 }

abbrev pub gate_at : List Gate → ℕ → Gate
gate_at gates place = slice_index_or gates place no_gate

-- for each gate of a part whether the part is one of the clock tree
abbrev pub tree_marks : List Bool → Part → List Bool
tree_marks tree (part.Comb buffer ins gates) = map (λ (_ : Gate). is_on_tree tree (part.Comb buffer ins gates)) gates
tree_marks tree (part.Flop clock reg) = []
tree_marks tree (part.Gate clock enables out) = []

-- the gates at these places, but none of the clock tree's
abbrev pub gates_at : List Bool → Circuit → List ℕ → List Gate
gates_at tree c places = map (gate_at (all_gates c)) (filter (λ place. not (is_marked (flat_map (tree_marks tree) c.parts) place)) places)

-- the nets of the design by their drivers: data inputs in port order, outputs of registers, gates in their order
abbrev pub drivers_by : Circuit → List Gate → List ℕ
drivers_by c order = c.inputs ++ flat_map reg_nets (regs_of c) ++ gate_nets order

-- the number of a net: the place of its driver
abbrev pub number_by : List ℕ → ℕ → ℕ
number_by drivers net = position_or_len (nat_eq net) drivers

-- what each gate needs, pin by pin: the place of the gate that drives what the pin reads, and no place where none does
abbrev pub gate_needs : List Gate → List (List ℕ)
gate_needs gates = map (λ (g : Gate). map (number_by (gate_nets gates)) g.ins) gates

-- depth first, from the gates in the order of the parts, needs in the order of pins: all gates but those of the clock tree
pub record IsOrderOf (c : Circuit) (tree : List Bool) (order : List Gate) : Type 0 where
  pub places : List ℕ
  pub found : order_of (gate_needs (all_gates c)) ≡ Ok places
  pub kept : order ≡ gates_at tree c places

-- a gate with other numbers for its nets
abbrev pub moved : (ℕ → ℕ) → Gate → Gate
moved number g = record { func = g.func; ins = map number g.ins; out = number g.out }

-- an output of a register, likewise
abbrev pub moved_out : (ℕ → ℕ) → RegOut → RegOut
moved_out number o = record { net = number o.net; inverted = o.inverted }

-- a register, likewise
abbrev pub moved_reg : (ℕ → ℕ) → Reg → Reg
moved_reg number r = record {
  next = r.next;
  clear = r.clear;
  preset = r.preset;
  both = r.both;
  ins = map number r.ins;
  outs = map (moved_out number) r.outs;
}

-- the design has the equations as its gates in their order, and registers and ports in the order of the netlist
pub record IsDesignOf (c : Circuit) (tree : List Bool) (order : List Gate) (d : Design) : Type 0 where
  pub tree_is : IsTree c tree
  pub order_is : IsOrderOf c tree order
  pub nets : d.nets ≡ length (drivers_by c order)
  pub gates : d.gates ≡ map (moved (number_by (drivers_by c order))) order
  pub regs : d.regs ≡ map (moved_reg (number_by (drivers_by c order))) (regs_of c)
  pub inputs : d.inputs ≡ map (number_by (drivers_by c order)) c.inputs
  pub outputs : d.outputs ≡ map (number_by (drivers_by c order)) c.outputs

-- a bit for each flat net that meets all equations, where registers and inputs have these bits
pub record IsSolution (c : Circuit) (gates : List Gate) (bits ins : List Bool) (v : ℕ → Bool) : Type 0 where
  pub inputs_are : (i : ℕ) → i < length c.inputs → v (slice_index c.inputs i) ≡ bit_at ins i
  pub regs_show : (r : ℕ) (reg : Reg) → slice_get (regs_of c) r ≡ Some reg → All (λ (o : RegOut). v o.net ≡ shown o (bit_at bits r)) reg.outs
  pub gates_hold : (k : ℕ) (g : Gate) → slice_get gates k ≡ Some g → v g.out ≡ value g.func (λ i. v (slice_index g.ins i))

-- what a cycle shows on a flat net
abbrev pub shows : List ℕ → Cycle → ℕ → Bool
shows drivers c net = bit_at c.nets (number_by drivers net)

-- what a register of the flat netlist captures, where nets have these bits
abbrev pub captured : Reg → Bool → (ℕ → Bool) → Bool
captured reg own v = reg_capture reg (λ place. if nat_lt place (length reg.ins) then v (slice_index reg.ins place) else own)

-- the settled cycles are exactly the solutions, and captures are those of the flops
pub record AreSolutions (c : Circuit) (tree : List Bool) (order : List Gate) (d : Design) : Type 0 where
  pub each : (y : Cycle) → IsSettled d y → IsSolution c (equations tree c) y.bits y.ins (shows (drivers_by c order) y)
  pub all : (bits ins : List Bool) (v : ℕ → Bool) → length bits ≡ length d.regs → length ins ≡ length d.inputs → IsSolution c (equations tree c) bits ins v
      → (y : Cycle) × IsSettled d y × (y.bits ≡ bits) × (y.ins ≡ ins)
      × ((net : ℕ) → Contains (drivers_by c order) net → shows (drivers_by c order) y net ≡ v net)
  pub captures : (y : Cycle) (r : ℕ) (reg : Reg) → IsSettled d y → slice_get (regs_of c) r ≡ Some reg
      → reg_capture_in y r (slice_get d.regs r) ≡ captured reg (bit_at y.bits r) (shows (drivers_by c order) y)
