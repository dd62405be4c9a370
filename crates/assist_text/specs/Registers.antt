-- Registers by name.
use Rattle.std.specs.Prelude.{◌≡◌, ℕ, List, Option, Some, Contains, MatchOption}
use Rattle.std.specs.Str.{bytes_eq}
use Rattle.std.specs.Map.{lookup}
use Rattle.linked_types.specs.declared.names.CellName.{CellName}

-- a cell with that full name has the register
abbrev pub IsRegNamed : List CellName → List ℕ → ℕ → Type 0
IsRegNamed cells name reg = (c : CellName) × Contains cells c × (c.name ≡ name) × (c.reg ≡ Some reg)

-- the register that goes by a name, or none where no cell with a register has the name
abbrev pub IsFound : List CellName → List ℕ → Option ℕ → Type 0
IsFound cells name found = MatchOption found ((reg : ℕ) → ¬ IsRegNamed cells name reg) (IsRegNamed cells name)

-- a table of the registers of cells
abbrev pub IsTable : List CellName → List (List ℕ × ℕ) → Type 0
IsTable cells table = (name : List ℕ) → IsFound cells name (lookup (bytes_eq name) table)
