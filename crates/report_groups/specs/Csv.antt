-- The groups of a report as records of comma-separated fields (RFC 4180).
use Rattle.std.specs.Prelude.{ℕ, ◌==◌, Bool, false, ◌||◌, if◌then◌else◌, List, [], ◌∷◌, ◌++◌, flat_map, codes}
use Rattle.std.specs.Fmt.{decimal}
use Rattle.csv.specs.Writing.{default_writer, row_text}
use Rattle.sdcv_base.specs.Shown.{shown}
use Rattle.report_groups.specs.Groups.{verdict_text}
use Rattle.report_groups.specs.declared.groups.Group.{Group}

-- the names of the fields
abbrev pub titles : List (List ℕ)
titles = codes "command" ∷ codes "kind" ∷ codes "start" ∷ codes "end" ∷ codes "pairs" ∷ codes "verdict" ∷ codes "why" ∷ codes "first" ∷ []

-- a spreadsheet may run a field that begins with `=`, `+`, `-`, `@` or a tab
abbrev pub is_mark : ℕ → Bool
is_mark b = (((b == 61 || b == 43) || b == 45) || b == 64) || b == 9

abbrev pub may_run : List ℕ → Bool
may_run [] = false
may_run (b ∷ rest) = is_mark b

-- a text that no spreadsheet runs: with a `'` in front where it may run as it is
abbrev pub still_text : List ℕ → List ℕ
still_text text = if may_run text then 39 ∷ text else text

-- a name as a field
abbrev pub field : List ℕ → List ℕ
field name = still_text (shown name)

-- numbers and words of verdicts begin with no such byte
abbrev pub fields_of : Group → List (List ℕ)
fields_of g =
    decimal g.row.command ∷ field g.row.kind ∷ field g.row.start ∷ field g.row.end ∷ decimal g.pairs ∷ verdict_text g.row.verdict ∷ field g.row.why
    ∷ decimal g.row.number ∷ []

abbrev pub record_text : List (List ℕ) → List ℕ
record_text fields = row_text default_writer fields

-- the titles, and then a record for each group
abbrev pub csv_text : List Group → List ℕ
csv_text groups = record_text titles ++ flat_map (λ g. record_text (fields_of g)) groups
