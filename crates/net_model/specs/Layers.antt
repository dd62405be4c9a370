-- The layers of a cycle in which the start comes late, and what the end captures then.
--
-- A row of net values for each layer, of bits or of any other kind of value. In the first one the start shows a late
-- value. Layer l + 1 takes the pins of through set l + 1 from layer l, so that what is late in the last layer came
-- through a pin of each set in order.
use Rattle.std.specs.Prelude.{◌≡◌, ℕ, zero, suc, ◌<◌, ◌≤◌, ◌+◌, ◌-◌, Bool, true, false, if◌then◌else◌, List, [], length, All, Contains}
use Rattle.std.specs.Prelude.{Option, Some, None, slice_get, slice_index, slice_index_or, nat_lt}
use Rattle.net_model.specs.Form.{value}
use Rattle.net_model.specs.Netlist.{source_nets}
use Rattle.net_model.specs.Rows.{Applied}
use Rattle.net_model.specs.Cycles.{shown, bit_at, reg_capture}
use Rattle.net_model.specs.Pins.{is_in, start_outs, start_nets}
use Rattle.net_model.specs.declared.netlist.Design.{Design}
use Rattle.net_model.specs.declared.netlist.Gate.{Gate}
use Rattle.net_model.specs.declared.netlist.Reg.{Reg}
use Rattle.net_model.specs.declared.netlist.RegOut.{RegOut}
use Rattle.net_model.specs.declared.cycles.Cycle.{Cycle}
use Rattle.net_model.specs.declared.claims.Claim.{Claim}
use Rattle.net_model.specs.declared.claims.Start.{Start}
use Rattle.net_model.specs.declared.claims.PinRef.{PinRef}
use Rattle.net_model.specs.declared.claims.PinRef.TheVariants.{Net, GateIn, RegIn, OutPort}
use Rattle.net_model.specs.declared.claims.End.{End}
use Rattle.net_model.specs.declared.claims.End.TheVariants.{Reg as RegEnd, Output as OutputEnd}

-- the row of a layer
abbrev pub row_at : {V : Type 0} → List (List V) → ℕ → List V
row_at rows l = slice_index_or rows l []

-- the value of a net in a layer
abbrev pub net_at : {V : Type 0} → V → List (List V) → ℕ → ℕ → V
net_at blank rows l net = slice_index_or (row_at rows l) net blank

-- the set of pins that a layer takes from the one before; the first layer takes none
abbrev pub held_set : List (List PinRef) → ℕ → List PinRef
held_set sets zero = []
held_set sets (suc l) = slice_index_or sets l []

-- the value that a net has in a layer before gates are settled: in the layer's set that of the layer before, and
-- else that of the cycle
abbrev pub first_value : {V : Type 0} → V → (Bool → V) → List (List PinRef) → List (List V) → ℕ → List Bool → ℕ → V
first_value blank bit_value sets rows l base n =
    if is_in (Net n) (held_set sets l) then net_at blank rows (l - 1) n else bit_value (bit_at base n)

-- what an input pin of a net reads in a layer: a pin in the layer's set what it reads in the layer before, and
-- any other pin its net's value
abbrev pub pin_reads : {V : Type 0} → V → List (List PinRef) → List (List V) → ℕ → PinRef → ℕ → V
pin_reads blank sets rows zero pin net = net_at blank rows 0 net
pin_reads blank sets rows (suc l) pin net =
    if is_in pin (held_set sets (suc l)) then pin_reads blank sets rows l pin net else net_at blank rows (suc l) net

-- what the pins of gate k read in a layer
abbrev pub layer_pins : {V : Type 0} → V → List (List PinRef) → List (List V) → ℕ → ℕ → List ℕ → ℕ → V
layer_pins blank sets rows l k ins place = pin_reads blank sets rows l (GateIn k place) (slice_index ins place)

-- in a layer each gate output that isn't in its set is the gate's function of what its pins read
abbrev pub AreLayerGates : {V : Type 0} → Applied V → V → Design → List (List PinRef) → List (List V) → ℕ → Type 0
AreLayerGates applied blank d sets rows l =
    (k : ℕ) (g : Gate) → slice_get d.gates k ≡ Some g → is_in (Net g.out) (held_set sets l) ≡ false
    → net_at blank rows l g.out ≡ applied g.func (layer_pins blank sets rows l k g.ins)

-- the layers up to a last one, over the net values of a cycle
pub record AreLayersTo {V : Type 0} (applied : Applied V) (blank : V) (d : Design) (start : Start) (sets : List (List PinRef))
    (late : RegOut → V) (base : List V) (rows : List (List V)) (last : ℕ) : Type 0 where
  -- there is a row for each of these layers
  pub count : last < length rows
  -- it has a value for each net
  pub lens : (l : ℕ) → l ≤ last → length (row_at rows l) ≡ d.nets
  -- in the first layer the start's nets show a late value
  pub late_nets : All (λ (o : RegOut). net_at blank rows 0 o.net ≡ late o) (start_outs d start)
  -- and other inputs and register outputs are as in the cycle
  pub others : (n : ℕ) → Contains (source_nets d) n → ¬ Contains (start_nets d start) n → net_at blank rows 0 n ≡ slice_index_or base n blank
  -- in each layer after it a net whose driver pin is in the layer's set has its value in the layer before
  pub held : (l : ℕ) → l < last → (n : ℕ) → n < d.nets → is_in (Net n) (held_set sets (suc l)) ≡ true
      → net_at blank rows (l + 1) n ≡ net_at blank rows l n
  -- and other inputs and register outputs, those of the start too, are as in the cycle
  pub sources : (l : ℕ) → l < last → (n : ℕ) → Contains (source_nets d) n → is_in (Net n) (held_set sets (suc l)) ≡ false
      → net_at blank rows (l + 1) n ≡ slice_index_or base n blank
  -- in each layer every other gate is settled
  pub gates : (l : ℕ) → l ≤ last → AreLayerGates applied blank d sets rows l

-- the first layer, and one for each set
abbrev pub AreLayers : {V : Type 0} → Applied V → V → Design → Start → List (List PinRef) → (RegOut → V) → List V → List (List V) → Type 0
AreLayers applied blank d start sets late base rows = AreLayersTo applied blank d start sets late base rows (length sets)

-- what the pins of an end register read in the last layer, and at the place after them its own bit as in the cycle
abbrev pub late_reg_pins : {V : Type 0} → V → List (List PinRef) → List (List V) → ℕ → Reg → V → ℕ → V
late_reg_pins blank sets rows r reg own place =
    if nat_lt place (length reg.ins) then pin_reads blank sets rows (length sets) (RegIn r place) (slice_index reg.ins place) else own

-- the capture of the register of this number over these rows, if there is one
abbrev pub late_reg_capture : List (List PinRef) → List (List Bool) → ℕ → Option Reg → Bool → Bool
late_reg_capture sets rows r None own = false
late_reg_capture sets rows r (Some reg) own = reg_capture reg (late_reg_pins false sets rows r reg own)

-- the capture of an end over what its pins read in the last layer
abbrev pub capture_over : Design → List (List PinRef) → List (List Bool) → End → Cycle → Bool
capture_over d sets rows (RegEnd r) c = late_reg_capture sets rows r (slice_get d.regs r) (bit_at c.bits r)
capture_over d sets rows (OutputEnd o) c = pin_reads false sets rows (length sets) (OutPort o) (slice_index d.outputs o)

-- the late capture: what the claim's end captures in a cycle where its start showed a stale bit in the first layer
pub record IsLateCapture (d : Design) (claim : Claim) (c : Cycle) (stale late : Bool) : Type 0 where
  pub rows : List (List Bool)
  pub layers : AreLayers value false d claim.start claim.through (λ o. shown o stale) c.nets rows
  pub capture : capture_over d claim.through rows claim.end c ≡ late
