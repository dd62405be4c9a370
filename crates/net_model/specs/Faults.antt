-- Why a design is not sound: what each refusal says of it.
use Rattle.std.specs.Prelude.{◌≡◌, ℕ, ◌<◌, ◌≤◌, ◌+◌, true, List, ◌++◌, length, take, Contains, Some, slice_get, count_by, ◌==◌}
use Rattle.net_model.specs.Netlist.{AllBelow, driver_count, source_nets, gate_nets, reg_nets, held_inputs}
use Rattle.net_model.specs.Mentions.{mentions, reg_mentions}
use Rattle.net_model.specs.declared.netlist.Design.{Design}
use Rattle.net_model.specs.declared.netlist.Gate.{Gate}
use Rattle.net_model.specs.declared.netlist.Reg.{Reg}
use Rattle.net_model.specs.declared.faults.DesignFault.{DesignFault}
use Rattle.net_model.specs.declared.faults.DesignFault.TheVariants.{PlaceOutOfRange, ManyDrivers, Undriven, Order, Twice, Limit, Memory}

-- a number of the list that is not below the limit
pub record IsBeyond (limit : ℕ) (numbers : List ℕ) (n : ℕ) : Type 0 where
  pub listed : Contains numbers n
  pub beyond : limit ≤ n

-- a gate's number out of range: a place that its function mentions and it has not, or a net
pub data IsGateBeyond (d : Design) (g : Gate) (n : ℕ) : Type 0 where
  GatePlace : mentions n g.func ≡ true → length g.ins ≤ n → IsGateBeyond d g n
  GateInput : IsBeyond d.nets g.ins n → IsGateBeyond d g n
  GateOutput : g.out ≡ n → d.nets ≤ n → IsGateBeyond d g n

-- so of a register
pub data IsRegBeyond (d : Design) (r : Reg) (n : ℕ) : Type 0 where
  RegPlace : reg_mentions n r ≡ true → length r.ins + 1 ≤ n → IsRegBeyond d r n
  RegInput : IsBeyond d.nets r.ins n → IsRegBeyond d r n
  RegOutput : IsBeyond d.nets (reg_nets r) n → IsRegBeyond d r n

-- a number that stands for a place, a net or an input, and is out of range
pub data IsOutOfRange (d : Design) (n : ℕ) : Type 0 where
  OfGate : (k : ℕ) (g : Gate) → slice_get d.gates k ≡ Some g → IsGateBeyond d g n → IsOutOfRange d n
  OfReg : (r : ℕ) (reg : Reg) → slice_get d.regs r ≡ Some reg → IsRegBeyond d reg n → IsOutOfRange d n
  OfInputs : IsBeyond d.nets d.inputs n → IsOutOfRange d n
  OfOutputs : IsBeyond d.nets d.outputs n → IsOutOfRange d n
  OfHeld : IsBeyond (length d.inputs) (held_inputs d) n → IsOutOfRange d n

-- those of inputs, outputs, and fixed and reset inputs are in range
pub record ArePortsInRange (d : Design) : Type 0 where
  pub inputs : AllBelow d.nets d.inputs
  pub outputs : AllBelow d.nets d.outputs
  pub held : AllBelow (length d.inputs) (held_inputs d)

-- the count is above its limit, and the number the first above it: counting stops there
pub record Passes (limit count n : ℕ) : Type 0 where
  pub above : limit < count
  pub first : n ≡ limit + 1

-- a number above its limit
pub data IsAboveLimit (d : Design) (n : ℕ) : Type 0 where
  Nets : Passes 200000 d.nets n → IsAboveLimit d n
  Registers : Passes 20000 (length d.regs) n → IsAboveLimit d n
  Inputs : Passes 20000 (length d.inputs) n → IsAboveLimit d n
  Outputs : Passes 20000 (length d.outputs) n → IsAboveLimit d n
  GatePins : (k : ℕ) (g : Gate) → slice_get d.gates k ≡ Some g → Passes 6 (length g.ins) n → IsAboveLimit d n
  RegPins : (r : ℕ) (reg : Reg) → slice_get d.regs r ≡ Some reg → Passes 6 (length reg.ins) n → IsAboveLimit d n
  ResetCycles : Passes 64 d.reset_len n → IsAboveLimit d n

-- gate k reads a net that no input, no register and no earlier gate drives
pub record IsOutOfOrder (d : Design) (k : ℕ) : Type 0 where
  pub gate : Gate
  pub at : slice_get d.gates k ≡ Some gate
  pub net : ℕ
  pub reads : Contains gate.ins net
  pub early : ¬ Contains (source_nets d ++ gate_nets (take k d.gates)) net

-- what a refusal says; want of memory alone is free
abbrev pub IsCause : Design → DesignFault → Type 0
IsCause d (PlaceOutOfRange n) = IsOutOfRange d n
IsCause d (ManyDrivers net) = (net < d.nets) × (1 < driver_count d net)
IsCause d (Undriven net) = (net < d.nets) × (driver_count d net ≡ 0)
IsCause d (Order k) = IsOutOfOrder d k
IsCause d (Twice i) = (i < length d.inputs) × (1 < count_by (λ m. m == i) (held_inputs d))
IsCause d (Limit n) = IsAboveLimit d n
IsCause d Memory = Unit {0}
