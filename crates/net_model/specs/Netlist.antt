-- Which nets a design drives, and when a design is sound.
use Rattle.std.specs.Prelude.{◌≡◌, ℕ, ◌<◌, ◌≤◌, ◌+◌, List, ◌++◌, map, flat_map, length, take, All, Contains, Option, Some, None, slice_get, count_by, ◌==◌}
use Rattle.net_model.specs.Form.{Form, IsOver}
use Rattle.net_model.specs.declared.netlist.Design.{Design}
use Rattle.net_model.specs.declared.netlist.Gate.{Gate}
use Rattle.net_model.specs.declared.netlist.Reg.{Reg}
use Rattle.net_model.specs.declared.netlist.RegOut.{RegOut}
use Rattle.net_model.specs.declared.netlist.Fixed.{Fixed}

-- the output nets of a register
abbrev pub reg_nets : Reg → List ℕ
reg_nets reg = map (λ (o : RegOut). o.net) reg.outs

-- the output nets of gates
abbrev pub gate_nets : List Gate → List ℕ
gate_nets gates = map (λ (g : Gate). g.out) gates

-- the nets that inputs and registers drive, one entry for each driver
abbrev pub source_nets : Design → List ℕ
source_nets d = d.inputs ++ flat_map reg_nets d.regs

-- the nets that inputs and the registers before register r drive
abbrev pub before_reg : Design → ℕ → List ℕ
before_reg d r = d.inputs ++ flat_map reg_nets (take r d.regs)

-- the nets that are driven, one entry for each driver
abbrev pub driven_nets : Design → List ℕ
driven_nets d = source_nets d ++ gate_nets d.gates

-- how many drivers a net has
abbrev pub driver_count : Design → ℕ → ℕ
driver_count d net = count_by (λ m. m == net) (driven_nets d)

-- each number of a list is below a limit
abbrev pub AllBelow : ℕ → List ℕ → Type 0
AllBelow limit = All (λ n. n < limit)

-- a control that a register need not have reads places below n alone
abbrev pub IsOptionOver : ℕ → Option Form → Type 0
IsOptionOver n None = Unit {0}
IsOptionOver n (Some f) = IsOver n f

-- a gate reads its own pins, at most six of them, and nets of the design
pub record IsGateInRange (d : Design) (g : Gate) : Type 0 where
  pub func : IsOver (length g.ins) g.func
  pub ins : AllBelow d.nets g.ins
  pub out : g.out < d.nets
  pub few : length g.ins ≤ 6

-- so does a register; its functions have one place more, its own bit
pub record IsRegInRange (d : Design) (r : Reg) : Type 0 where
  pub next : IsOver (length r.ins + 1) r.next
  pub clear : IsOptionOver (length r.ins + 1) r.clear
  pub preset : IsOptionOver (length r.ins + 1) r.preset
  pub ins : AllBelow d.nets r.ins
  pub outs : AllBelow d.nets (reg_nets r)
  pub few : length r.ins ≤ 6

-- the inputs that are given a value
abbrev pub setting_inputs : List Fixed → List ℕ
setting_inputs fs = map (λ (f : Fixed). f.input) fs

-- the fixed inputs, and then the reset inputs
abbrev pub held_inputs : Design → List ℕ
held_inputs d = setting_inputs d.fixed ++ setting_inputs d.resets

-- every number that stands for a net, a place or an input is one of the design
pub record IsInRange (d : Design) : Type 0 where
  pub gates : All (IsGateInRange d) d.gates
  pub regs : All (IsRegInRange d) d.regs
  pub inputs : AllBelow d.nets d.inputs
  pub outputs : AllBelow d.nets d.outputs
  pub held : AllBelow (length d.inputs) (held_inputs d)

-- each gate reads only nets that an input, a register or an earlier gate drives; so no cycle goes through gates alone
abbrev pub IsInOrder : Design → Type 0
IsInOrder d =
    (k : ℕ) (g : Gate) → slice_get d.gates k ≡ Some g → All (Contains (source_nets d ++ gate_nets (take k d.gates))) g.ins

-- the sizes that the tool takes
pub record IsWithinLimits (d : Design) : Type 0 where
  pub nets : d.nets ≤ 200000
  pub regs : length d.regs ≤ 20000
  pub inputs : length d.inputs ≤ 20000
  pub outputs : length d.outputs ≤ 20000
  pub reset_len : d.reset_len ≤ 64

-- each net has exactly one driver, and no input is fixed or reset twice, or both
pub record IsSound (d : Design) : Type 0 where
  pub in_range : IsInRange d
  pub one_driver : (net : ℕ) → net < d.nets → driver_count d net ≡ 1
  pub in_order : IsInOrder d
  pub once : (i : ℕ) → i < length d.inputs → count_by (λ m. m == i) (held_inputs d) ≤ 1
  pub limits : IsWithinLimits d
