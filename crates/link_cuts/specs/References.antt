-- The references of cells that are cut out.
use Rattle.std.specs.Prelude.{ℕ, false, List, map, count_by}
use Rattle.std.specs.Str.{bytes_eq}
use Rattle.texts.specs.Names.{each_once}
use Rattle.linked_types.specs.declared.names.CutName.{CutName}
use Rattle.link_defs.specs.declared.cuts.CutCell.{CutCell}

-- each once, in the order in which they first stand
abbrev pub references_of : List CutCell → List (List ℕ)
references_of cells = each_once (map (λ (x : CutCell). x.cell) cells)

-- how many cells are of one
abbrev pub count_of : List CutCell → List ℕ → ℕ
count_of cells reference = count_by (λ (x : CutCell). bytes_eq reference x.cell) cells

abbrev pub counts_of : List CutCell → List (List ℕ) → List ℕ
counts_of cells references = map (count_of cells) references

-- a reference with its count; no path leads through its cells
abbrev pub named_by : (List ℕ → ℕ) → List ℕ → CutName
named_by count reference = record { cell = reference; count = count reference; «open» = false }
