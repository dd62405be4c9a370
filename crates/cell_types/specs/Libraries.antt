-- Cells by name, and lawful libraries.
use Rattle.std.specs.Prelude.{◌≡◌, ℕ, ◌+◌, List, length, map, All, Option}
use Rattle.std.specs.List.{position, IsDistinct}
use Rattle.std.specs.Str.{bytes_eq}
use Rattle.net_model.specs.Form.{IsOver}
use Rattle.net_model.specs.Netlist.{IsOptionOver}
use Rattle.cell_types.specs.declared.libraries.Cell.{Cell}
use Rattle.cell_types.specs.declared.libraries.CellKind.{CellKind}
use Rattle.cell_types.specs.declared.libraries.CellKind.TheVariants as kind
use Rattle.cell_types.specs.declared.libraries.CombOut.{CombOut}
use Rattle.cell_types.specs.declared.libraries.Flop.{Flop}

-- the place of the first cell of that name
abbrev pub place_of_cell : List Cell → List ℕ → Option ℕ
place_of_cell cells name = position (λ (cell : Cell). bytes_eq cell.name name) cells

-- a flop's functions read input pins, and its next state also the state
pub record IsLawfulFlop (inputs : ℕ) (flop : Flop) : Type 0 where
  pub next : IsOver (inputs + 1) flop.next
  pub clear : IsOptionOver inputs flop.clear
  pub preset : IsOptionOver inputs flop.preset

-- every function of the cell reads the places of its input pins, and the enables of a clock gate are its input pins
abbrev pub IsLawfulKind : List (List ℕ) → CellKind → Type 0
IsLawfulKind inputs (kind.Comb outs) = All (λ (o : CombOut). IsOver (length inputs) o.func) outs
IsLawfulKind inputs (kind.Flop flop) = IsLawfulFlop (length inputs) flop
IsLawfulKind inputs (kind.Gate gate) = gate.enables ≡ inputs
IsLawfulKind inputs (kind.Other o) = Unit {0}

abbrev pub IsLawfulCell : Cell → Type 0
IsLawfulCell cell = IsLawfulKind cell.inputs cell.kind

-- the names of the cells differ, each function reads only places of its cell, and clock gates have their enables as inputs
pub record IsLawful (cells : List Cell) : Type 0 where
  pub names_differ : IsDistinct bytes_eq (map (λ (cell : Cell). cell.name) cells)
  pub functions : All IsLawfulCell cells
