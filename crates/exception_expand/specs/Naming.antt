-- The names of starts and ends.
use Rattle.std.specs.Prelude.{◌≡◌, ◌<◌, length, drop, slice_index_or, ℕ, true, false, List, [], ◌∷◌, Option, Some, None, slice_get}
use Rattle.net_model.specs.declared.claims.Start.{Start}
use Rattle.net_model.specs.declared.claims.Start.TheVariants.{Reg as RegStart, Input as InputStart}
use Rattle.net_model.specs.declared.claims.End.{End}
use Rattle.net_model.specs.declared.claims.End.TheVariants.{Reg as RegEnd, Output as OutputEnd}
use Rattle.linked_types.specs.declared.names.Linked.{Linked}
use Rattle.linked_types.specs.declared.names.CellName.{CellName}
use Rattle.linked_types.specs.Inputs.{input_names, output_names}
use Rattle.linked_types.specs.Usable.{is_reg}

-- the name of the cell that has a register
abbrev pub reg_name : List CellName → ℕ → List ℕ
reg_name [] r = []
reg_name (c ∷ cs) r = elim (is_reg r c) as (λ b. List ℕ) [ true ↦ c.name | false ↦ reg_name cs r ]

-- the name at a place, if there is one
abbrev pub name_there : Option (List ℕ) → List ℕ
name_there None = []
name_there (Some name) = name

-- a register goes by its cell, an input or an output by its number
abbrev pub start_name : Linked → Start → List ℕ
start_name l (RegStart r) = reg_name l.names.cells r
start_name l (InputStart i) = name_there (slice_get (input_names l.names) i)

abbrev pub end_name : Linked → End → List ℕ
end_name l (RegEnd r) = reg_name l.names.cells r
end_name l (OutputEnd o) = name_there (slice_get (output_names l.names) o)

-- the name of a cell, if there is one
abbrev pub cell_name : Option CellName → List ℕ
cell_name None = []
cell_name (Some c) = c.name

-- the name of the cell at a place that may be missing
abbrev pub name_of : List CellName → Option ℕ → List ℕ
name_of cells None = []
name_of cells (Some place) = cell_name (slice_get cells place)

-- a row has the place of the first cell that has a register, for each register
pub record AreCellsFrom (cells : List CellName) (from regs : ℕ) (row : List (Option ℕ)) : Type 0 where
  pub len : length row ≡ regs
  pub cell : (r : ℕ) → r < regs → name_of cells (slice_index_or row r None) ≡ reg_name (drop from cells) r

abbrev pub AreRegCells : Linked → List (Option ℕ) → Type 0
AreRegCells l row = AreCellsFrom l.names.cells 0 (length l.design.regs) row
