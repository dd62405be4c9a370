-- A flat netlist with its leaves by the places of their cells and parts, and the cells that are cut out of it.
use Rattle.std.specs.Prelude.{◌≡◌, ℕ, ◌<◌, true, List, All}
use Rattle.cell_types.specs.declared.libraries.Library.{Library}
use Rattle.link_defs.specs.declared.cuts.CutCell.{CutCell}
use Rattle.link_defs.specs.declared.cuts.CutPin.{CutPin}
use Rattle.link_defs.specs.Judged.{FlatNetlist, IsJudged}
use Rattle.link_items.specs.Items.{AreLeavesAt}
use Rattle.link_clocks.specs.declared.netlists.CutNetlist.{CutNetlist}

-- it is this flat netlist
pub record IsNetlist (lib : Library) (x : CutNetlist) (n : FlatNetlist) : Type 0 where
  pub circuit : n.circuit ≡ x.circuit
  pub leaves : AreLeavesAt lib x.circuit.parts x.leaves n.found
  pub cells : n.cells ≡ x.cells

-- it is what is judged of this one, where one clock of several is
pub record IsJudgedOf (lib : Library) (n : FlatNetlist) (x : CutNetlist) : Type 0 where
  pub netlist : FlatNetlist
  pub judged : IsJudged true n netlist
  pub is : IsNetlist lib x netlist

-- the pins of cells stand on nets below a number
abbrev pub AreCellsBelow : ℕ → List CutCell → Type 0
AreCellsBelow nets cells = All (λ (x : CutCell). All (λ (p : CutPin). p.net < nets) x.pins) cells
