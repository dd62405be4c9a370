-- The order of a stimulus's bits, as lines.
use Rattle.std.specs.Prelude.{ℕ, ◌+◌, List, [], ◌∷◌, ◌++◌, flat_map, Option, Some, None, codes}
use Rattle.std.specs.Fmt.{decimal}
use Rattle.sdcv_base.specs.Shown.{shown}
use Rattle.linked_types.specs.declared.names.CellName.{CellName}
use Rattle.linked_types.specs.declared.names.Linked.{Linked}
use Rattle.linked_types.specs.Inputs.{input_names}
use Rattle.wave_signals.specs.Numbered.{numbered}

-- a word, a number and a name
abbrev pub row_text : List ℕ → ℕ → List ℕ → List ℕ
row_text word number name = word ++ (codes " " ++ (decimal number ++ (codes " " ++ shown name)))

-- the line of a bit, given its place from 0
abbrev pub row : List ℕ → ℕ → List ℕ → List ℕ
row word place name = row_text word (place + 1) name ++ 10 ∷ []

-- the register of a cell, if it has one
abbrev pub state_rows_if_any : List ℕ → Option ℕ → List ℕ
state_rows_if_any name None = []
state_rows_if_any name (Some r) = row (codes "state") r name

abbrev pub state_rows : CellName → List ℕ
state_rows c = state_rows_if_any c.name c.reg

-- an input, given its place
abbrev pub input_row : ℕ → List ℕ → List ℕ
input_row place name = row (codes "input") place name

-- the registers by their cells, and then the inputs
abbrev pub bits_text : Linked → List ℕ
bits_text l = flat_map state_rows l.names.cells ++ numbered input_row 0 (input_names l.names)
