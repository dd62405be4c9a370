-- Tables: rows with a label and cells, laid out in columns.
use Rattle.std.specs.Prelude.{ℕ, ◌-◌, max, List, [], ◌++◌, length, map, replicate, slice_index_or, codes}
use Rattle.std.specs.List.{fold, range_with_len}
use Rattle.wave_signals.specs.Numbered.{numbered}
use Rattle.shown_runs.specs.declared.tables.TableRow.{TableRow}
use Rattle.shown_runs.specs.declared.tables.Widths.{Widths}

-- the cell of a row in a column, from 0
abbrev pub cell_in : ℕ → TableRow → List ℕ
cell_in column row = slice_index_or row.cells column []

-- labels are as wide as the widest, and so are the cells of a column
abbrev pub label_width : List TableRow → ℕ
label_width rows = fold (λ width (row : TableRow). max width (length row.label)) 0 rows

abbrev pub column_width : List TableRow → ℕ → ℕ
column_width rows column = fold (λ width row. max width (length (cell_in column row))) 0 rows

-- the widths of a table of so many columns
abbrev pub widths_of : ℕ → List TableRow → Widths
widths_of columns rows = record { label = label_width rows; columns = map (column_width rows) (range_with_len 0 columns) }

-- so many spaces as a text lacks of a width
abbrev pub spaces : ℕ → List ℕ → List ℕ
spaces width text = replicate (width - length text) 32

-- a cell in its column: two spaces, and the cell to the right
abbrev pub cell_text : Widths → ℕ → List ℕ → List ℕ
cell_text widths column cell = codes "  " ++ (spaces (slice_index_or widths.columns column 0) cell ++ cell)

-- a row: the label to the left, and each cell in its column
abbrev pub row_text : Widths → TableRow → List ℕ
row_text widths row = row.label ++ (spaces widths.label row.label ++ numbered (cell_text widths) 0 row.cells)

-- a line for each row
unfoldable pub table : ℕ → List TableRow → List (List ℕ)
table columns rows = map (row_text (widths_of columns rows)) rows
