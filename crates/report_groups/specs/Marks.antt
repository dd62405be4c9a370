-- Which rows of two lists cancel each other: of equal rows the first with the first, the second with the second, and so on.
use Rattle.std.specs.Prelude.{ℕ, Bool, not, List, [], ◌∷◌, ◌++◌, map, filter, count_by, codes, if◌then◌else◌}
use Rattle.std.specs.Fmt.{decimal}
use Rattle.std.specs.Str.{bytes_eq}
use Rattle.sdcv_base.specs.Shown.{shown}
use Rattle.texts.specs.Names.{is_among, each_once}
use Rattle.report_rows.specs.declared.reports.PairRow.{PairRow}
use Rattle.report_groups.specs.Groups.{◌⁀◌, verdict_text, ends_text}

-- what equal rows have in common: start, end and kind, and their verdict where it counts
abbrev pub alike_text : Bool → PairRow → List ℕ
alike_text verdicts r =
    if verdicts then ends_text r ⁀ codes " " ⁀ shown r.kind ⁀ codes " " ⁀ verdict_text r.verdict
    else ends_text r ⁀ codes " " ⁀ shown r.kind

-- each row, with how many equal ones stand before it as its number, where these rows stand before all
unfoldable pub ranked_after : Bool → List PairRow → List PairRow → List PairRow
ranked_after verdicts before [] = []
ranked_after verdicts before (r ∷ rs) =
    record r { number = count_by (λ other. bytes_eq other (alike_text verdicts r)) (map (alike_text verdicts) before) }
    ∷ ranked_after verdicts (before ++ r ∷ []) rs

abbrev pub ranked : Bool → List PairRow → List PairRow
ranked verdicts rows = ranked_after verdicts [] rows

-- a row that has its rank, told apart from all others of its list
abbrev pub mark : Bool → PairRow → List ℕ
mark verdicts r = decimal r.number ⁀ codes " " ⁀ alike_text verdicts r

-- the rows with none of these marks
abbrev pub unmarked : Bool → List PairRow → List (List ℕ) → List PairRow
unmarked verdicts rows marks = filter (λ r. not (is_among (mark verdicts r) marks)) rows

-- the marks of rows that have their ranks
abbrev pub marks : Bool → List PairRow → List (List ℕ)
marks verdicts rows = each_once (map (mark verdicts) rows)

-- the rows, with their ranks, that none of the others cancels
abbrev pub left_of : Bool → List PairRow → List PairRow → List PairRow
left_of verdicts rows others = unmarked verdicts (ranked verdicts rows) (marks verdicts (ranked verdicts others))
