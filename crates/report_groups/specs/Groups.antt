-- Which pairs of a report are of one group. Names are shown with a `?` for each byte outside 32 to 126.
use Rattle.std.specs.Prelude.{ℕ, List, [], ◌∷◌, ◌++◌, map, count_by, codes, if◌then◌else◌}
use Rattle.std.specs.Fmt.{decimal}
use Rattle.std.specs.Str.{bytes_eq}
use Rattle.sdcv_base.specs.Shown.{shown}
use Rattle.texts.specs.Names.{is_among, with_name}
use Rattle.report_rows.specs.declared.reports.Word.{Word}
use Rattle.report_rows.specs.declared.reports.Word.TheVariants.{Justified, Refuted, Undecided}
use Rattle.report_rows.specs.declared.reports.PairRow.{PairRow}
use Rattle.report_groups.specs.Stars.{starred}
use Rattle.report_groups.specs.declared.groups.Group.{Group}

-- one text, and then another
infixr 5 ◌⁀◌
abbrev pub ◌⁀◌ : List ℕ → List ℕ → List ℕ
first ⁀ next = first ++ next

abbrev pub verdict_text : Word → List ℕ
verdict_text Justified = codes "justified"
verdict_text Refuted = codes "refuted"
verdict_text Undecided = codes "undecided"

-- the row of a pair without the indices of its start and its end
abbrev pub starred_row : PairRow → PairRow
starred_row r = record r { start = starred r.start; end = starred r.end }

abbrev pub ends_text : PairRow → List ℕ
ends_text r = shown r.start ⁀ codes " -> " ⁀ shown r.end

-- what is found out, and of which exception
abbrev pub found_text : PairRow → List ℕ
found_text r = verdict_text r.verdict ⁀ codes " " ⁀ shown r.why ⁀ codes " command " ⁀ decimal r.command ⁀ codes " " ⁀ shown r.kind

-- what the pairs of one group have in common: start, end, verdict, its cause, the exception and what it claims
abbrev pub key_of : PairRow → List ℕ
key_of r = ends_text r ⁀ codes " " ⁀ found_text r

-- the rows whose key none of the names is, and none of the rows before them has
unfoldable pub firsts : List (List ℕ) → List PairRow → List PairRow
firsts names [] = []
firsts names (r ∷ rs) = if is_among (key_of r) names then firsts names rs else r ∷ firsts (with_name names (key_of r)) rs

-- the group of a row: the row, and how many of the keys of all rows are its own
abbrev pub group_by : List (List ℕ) → PairRow → Group
group_by keys r = record { row = r; pairs = count_by (λ key. bytes_eq key (key_of r)) keys }

abbrev pub groups_among : List PairRow → List Group
groups_among rows = map (group_by (map key_of rows)) (firsts [] rows)

-- the groups of these pairs, in the order of the first pair of each
abbrev pub groups_of : List PairRow → List Group
groups_of pairs = groups_among (map starred_row pairs)

-- a group's line: its row with how many pairs it has, and the number of the first of them
abbrev pub group_text : Group → List ℕ
group_text g = ends_text g.row ⁀ codes " " ⁀ decimal g.pairs ⁀ codes " " ⁀ found_text g.row ⁀ codes " first " ⁀ decimal g.row.number
