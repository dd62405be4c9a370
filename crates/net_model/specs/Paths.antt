-- Paths of pins, and the through sets that they meet. Clock pins and a register's own bit are no pins.
use Rattle.std.specs.Prelude.{◌≡◌, ℕ, ◌<◌, List, [], ◌∷◌, length, drop, Contains, Some, slice_get, slice_index}
use Rattle.net_model.specs.Pins.{start_nets}
use Rattle.net_model.specs.declared.netlist.Design.{Design}
use Rattle.net_model.specs.declared.netlist.Gate.{Gate}
use Rattle.net_model.specs.declared.netlist.Reg.{Reg}
use Rattle.net_model.specs.declared.claims.Start.{Start}
use Rattle.net_model.specs.declared.claims.PinRef.{PinRef}
use Rattle.net_model.specs.declared.claims.PinRef.TheVariants.{Net, GateIn, RegIn, OutPort}
use Rattle.net_model.specs.declared.claims.End.{End}
use Rattle.net_model.specs.declared.claims.End.TheVariants.{Reg as RegEnd, Output as OutputEnd}

-- a pin leads to the next one: the driver pin of a net to an input pin that reads the net, and an input pin of a gate
-- to the gate's output
pub data LeadsTo (d : Design) : PinRef → PinRef → Type 0 where
  To_gate : (k : ℕ) (g : Gate) (i : ℕ) → slice_get d.gates k ≡ Some g → i < length g.ins → LeadsTo d (Net (slice_index g.ins i)) (GateIn k i)
  Through_gate : (k : ℕ) (g : Gate) (i : ℕ) → slice_get d.gates k ≡ Some g → i < length g.ins → LeadsTo d (GateIn k i) (Net g.out)
  To_reg : (r : ℕ) (reg : Reg) (i : ℕ) → slice_get d.regs r ≡ Some reg → i < length reg.ins → LeadsTo d (Net (slice_index reg.ins i)) (RegIn r i)
  To_output : (o : ℕ) → o < length d.outputs → LeadsTo d (Net (slice_index d.outputs o)) (OutPort o)

-- the pin is an input pin of the end register, or the end output port
abbrev pub EndsAt : Design → End → PinRef → Type 0
EndsAt d (RegEnd r) pin = (i : ℕ) × (pin ≡ RegIn r i)
EndsAt d (OutputEnd o) pin = pin ≡ OutPort o

-- from a pin each pin leads to the one after it, and the last is a pin of the end
abbrev pub GoesOn : Design → End → PinRef → List PinRef → Type 0
GoesOn d end_ pin [] = EndsAt d end_ pin
GoesOn d end_ pin (next ∷ rest) = LeadsTo d pin next × GoesOn d end_ next rest

-- a path from an output net of the start to a pin of the end
abbrev pub IsPath : Design → Start → End → List PinRef → Type 0
IsPath d start end_ [] = ⊥
IsPath d start end_ (pin ∷ rest) = ((net : ℕ) × Contains (start_nets d start) net × (pin ≡ Net net)) × GoesOn d end_ pin rest

-- a pin of each set can be chosen on the path, in the order of the sets, the chosen places never going back
abbrev pub Meets : List (List PinRef) → List PinRef → Type 0
Meets [] path = Unit {0}
Meets (set ∷ sets) path =
    (place : ℕ) × ((pin : PinRef) × (slice_get path place ≡ Some pin) × Contains set pin) × Meets sets (drop place path)

-- there is a path from the start to the end that meets the through sets
abbrev pub HasPath : Design → Start → End → List (List PinRef) → Type 0
HasPath d start end_ sets = (path : List PinRef) × IsPath d start end_ path × Meets sets path
