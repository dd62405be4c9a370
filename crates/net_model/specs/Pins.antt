-- Pins, sets of pins, and the nets of a start.
use Rattle.std.specs.Prelude.{ℕ, Bool, false, ◌&&◌, ◌==◌, List, [], ◌∷◌, map, Option, Some, None, slice_get, slice_index, if◌then◌else◌}
use Rattle.std.specs.List.{list_any}
use Rattle.net_model.specs.declared.netlist.Design.{Design}
use Rattle.net_model.specs.declared.netlist.Reg.{Reg}
use Rattle.net_model.specs.declared.netlist.RegOut.{RegOut}
use Rattle.net_model.specs.declared.claims.PinRef.{PinRef}
use Rattle.net_model.specs.declared.claims.PinRef.TheVariants.{Net, GateIn, RegIn, OutPort}
use Rattle.net_model.specs.declared.claims.Start.{Start}
use Rattle.net_model.specs.declared.claims.Start.TheVariants.{Reg as RegStart, Input as InputStart}

-- whether two pins are one
abbrev pub same_pin : PinRef → PinRef → Bool
same_pin (Net n) (Net m) = n == m
same_pin (GateIn g i) (GateIn h j) = (g == h) && (i == j)
same_pin (RegIn r i) (RegIn q j) = (r == q) && (i == j)
same_pin (OutPort o) (OutPort q) = o == q
same_pin _ _ = false

-- whether a set has the pin
abbrev pub is_in : PinRef → List PinRef → Bool
is_in pin set = list_any (same_pin pin) set

-- the output nets of a register, if there is one
abbrev pub outs_of_reg : Option Reg → List RegOut
outs_of_reg None = []
outs_of_reg (Some reg) = reg.outs

-- the output nets of a start: those of the register, some of them inverted, or the input's own net
abbrev pub start_outs : Design → Start → List RegOut
start_outs d (RegStart r) = outs_of_reg (slice_get d.regs r)
start_outs d (InputStart i) = record { net = slice_index d.inputs i; inverted = false } ∷ []

-- the same without the inversions
abbrev pub start_nets : Design → Start → List ℕ
start_nets d s = map (λ (o : RegOut). o.net) (start_outs d s)

-- a late value on a net of the start, or where the net is inverted the other value
abbrev pub late_value : {V : Type 0} → V → V → RegOut → V
late_value value inverted o = if o.inverted then inverted else value
