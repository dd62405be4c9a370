-- Why cells can't be cut out.
use Rattle.std.specs.Prelude.{◌≡◌, List, ℕ, Contains, Option, Some, None}
use Rattle.linked_types.specs.declared.faults.LinkFault.{LinkFault}
use Rattle.linked_types.specs.declared.faults.LinkFault.TheVariants as fault
use Rattle.link_defs.specs.declared.circuits.Circuit.{Circuit}
use Rattle.link_defs.specs.declared.cuts.CutCell.{CutCell}
use Rattle.link_defs.specs.declared.cuts.CutFault.TheVariants as cut
use Rattle.link_defs.specs.declared.cuts.CutPin.{CutPin}
use Rattle.link_defs.specs.declared.cuts.Way.TheVariants as way
use Rattle.link_defs.specs.Circuits.{all_drivers}
use Rattle.link_defs.specs.Faults.{pin_of}
use Rattle.link_cuts.specs.declared.places.PinPlace.{PinPlace}
use Rattle.link_cuts.specs.Cutting.{cell_at, own_pin, IsInCells}

-- it is connected to a port that isn't there, or a constant to an output of it; want of memory alone is free
abbrev pub IsFaultOf : CutCell → LinkFault → Type 0
IsFaultOf x (fault.UnknownPin name) = (pin : List ℕ) × (x.fault ≡ Some (cut.Stray pin)) × (name ≡ pin_of x.name pin)
IsFaultOf x (fault.ManyDrivers name) = (pin : List ℕ) × (x.fault ≡ Some (cut.Tied pin)) × (name ≡ pin_of x.name pin)
IsFaultOf x fault.Memory = Unit {0}
IsFaultOf x e = ⊥

-- that of one of them
abbrev pub IsCellFault : List CutCell → LinkFault → Type 0
IsCellFault cells (fault.UnknownPin name) =
    (x : CutCell) × (pin : List ℕ) × Contains cells x × (x.fault ≡ Some (cut.Stray pin)) × (name ≡ pin_of x.name pin)
IsCellFault cells (fault.ManyDrivers name) =
    (x : CutCell) × (pin : List ℕ) × Contains cells x × (x.fault ≡ Some (cut.Tied pin)) × (name ≡ pin_of x.name pin)
IsCellFault cells fault.Memory = Unit {0}
IsCellFault cells e = ⊥

-- the place is that of an output of a cell that stands on a net that the circuit drives; or there is none such
abbrev pub IsDrivenPin : Circuit → List CutCell → Option PinPlace → Type 0
IsDrivenPin c cells None = (x : CutCell) (p : CutPin) → Contains cells x → Contains x.pins p → p.way ≡ way.Out → Contains (all_drivers c) p.net → ⊥
IsDrivenPin c cells (Some at) =
    IsInCells cells at × ((own_pin (cell_at cells at.cell) at.pin).way ≡ way.Out)
    × Contains (all_drivers c) (own_pin (cell_at cells at.cell) at.pin).net
