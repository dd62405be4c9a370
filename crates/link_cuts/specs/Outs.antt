-- Outputs of cells that are cut out, on nets that are marked.
use Rattle.std.specs.Prelude.{◌≡◌, Bool, true, false, ◌&&◌, List, ℕ, All, Option, Some, None, slice_get}
use Rattle.sdcv_base.specs.Seqs.{is_marked}
use Rattle.link_defs.specs.declared.cuts.CutCell.{CutCell}
use Rattle.link_defs.specs.declared.cuts.CutPin.{CutPin}
use Rattle.link_defs.specs.declared.cuts.Way.{Way}
use Rattle.link_defs.specs.declared.cuts.Way.TheVariants as way
use Rattle.link_cuts.specs.declared.places.PinPlace.{PinPlace}
use Rattle.link_cuts.specs.Cutting.{cell_at, own_pin, IsInCells}

-- such a pin is known to drive its net
abbrev pub is_out : Way → Bool
is_out way.In = false
is_out way.Out = true
is_out way.Either = false

-- the pin is an output on a marked net
abbrev pub is_driven : List Bool → CutPin → Bool
is_driven driven p = is_out p.way && is_marked driven p.net

-- the place is that of such a pin; or there is none
abbrev pub IsDrivenPlace : List Bool → List CutCell → Option PinPlace → Type 0
IsDrivenPlace driven cells None = All (λ (x : CutCell). All (λ (p : CutPin). is_driven driven p ≡ false) x.pins) cells
IsDrivenPlace driven cells (Some at) = IsInCells cells at × (is_driven driven (own_pin (cell_at cells at.cell) at.pin) ≡ true)

-- and among the pins of a cell
abbrev pub IsDrivenOf : List Bool → List CutPin → Option ℕ → Type 0
IsDrivenOf driven pins None = All (λ (p : CutPin). is_driven driven p ≡ false) pins
IsDrivenOf driven pins (Some pin) = (p : CutPin) × (slice_get pins pin ≡ Some p) × (is_driven driven p ≡ true)
