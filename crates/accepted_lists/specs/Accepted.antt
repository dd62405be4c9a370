-- Which pairs of a report a list accepts, and which notes.
use Rattle.std.specs.Prelude.{ℕ, ◌-◌, ◌==◌, ◌&&◌, ◌||◌, Bool, true, false, not, List, map, sum, filter, count_by, drop, Option, Some, None, if◌then◌else◌}
use Rattle.std.specs.List.{list_any}
use Rattle.std.specs.Str.{bytes_eq}
use Rattle.glob.specs.Match.{matches}
use Rattle.report_rows.specs.Totals.{is_justified, is_refuted, is_undecided}
use Rattle.report_rows.specs.Words.{cut, joined}
use Rattle.report_rows.specs.declared.heads.Head.{Head}
use Rattle.report_rows.specs.declared.reports.Word.{Word}
use Rattle.report_rows.specs.declared.reports.Word.TheVariants.{Justified, Refuted, Undecided}
use Rattle.report_rows.specs.declared.reports.PairRow.{PairRow}
use Rattle.report_rows.specs.declared.reports.Report.{Report}
use Rattle.accepted_lists.specs.Entries.{place_length}
use Rattle.accepted_lists.specs.declared.lists.AcceptedList.{AcceptedList}
use Rattle.accepted_lists.specs.declared.pair_entries.PairEntry.{PairEntry}

abbrev pub is_same_verdict : Word → Word → Bool
is_same_verdict Justified v = is_justified v
is_same_verdict Refuted v = is_refuted v
is_same_verdict Undecided v = is_undecided v

-- the entry fits a pair: its patterns match the pair's names, where `*` and `?` stop at `/`, and it says the pair's kind and verdict
abbrev pub fits : PairEntry → PairRow → Bool
fits e row = matches e.start row.start false && (matches e.end row.end false && (bytes_eq e.kind row.kind && is_same_verdict e.verdict row.verdict))

abbrev pub is_lag : Option ℕ → ℕ → Bool
is_lag None lag = true
is_lag (Some wanted) lag = wanted == lag

-- the report was made with the hazards and the lag that the entry asks for
abbrev pub is_of_mode : Head → PairEntry → Bool
is_of_mode head e = (not e.hazard || head.hazard) && is_lag e.lag head.lag

-- the two entries have the same patterns, kind and verdict
abbrev pub is_alike : PairEntry → PairEntry → Bool
is_alike e f = bytes_eq e.start f.start && (bytes_eq e.end f.end && (bytes_eq e.kind f.kind && is_same_verdict e.verdict f.verdict))

abbrev pub count_or_0 : Option ℕ → ℕ
count_or_0 None = 0
count_or_0 (Some n) = n

-- what an entry adds to the count of one like it
abbrev pub added : Head → PairEntry → PairEntry → ℕ
added head e f = if is_alike e f && is_of_mode head f then count_or_0 f.count else 0

-- how many pairs the entry may fit: the counts of all that are like it
abbrev pub granted : Head → List PairEntry → PairEntry → ℕ
granted head entries e = sum (map (added head e) entries)

-- how many pairs it fits
abbrev pub fitted : List PairRow → PairEntry → ℕ
fitted rows e = count_by (fits e) rows

-- an entry with a count accepts nothing where it fits more pairs
abbrev pub is_count_within : Option ℕ → ℕ → ℕ → Bool
is_count_within None pairs most = true
is_count_within (Some count) pairs most = (pairs - most) == 0

abbrev pub is_entry_within : Report → List PairEntry → PairEntry → Bool
is_entry_within report entries e = is_count_within e.count (fitted report.pairs e) (granted report.head entries e)

-- the entry accepts the pairs that it fits
abbrev pub is_live : Report → List PairEntry → PairEntry → Bool
is_live report entries e = is_of_mode report.head e && is_entry_within report entries e

abbrev pub live_entries : Report → List PairEntry → List PairEntry
live_entries report entries = filter (is_live report entries) entries

-- one of the entries fits the pair
abbrev pub is_fitted : List PairEntry → PairRow → Bool
is_fitted entries row = list_any (λ e. fits e row) entries

-- the report without the pairs that the list accepts
abbrev pub open_of : AcceptedList → Report → Report
open_of list report = record report { pairs = filter (λ row. not (is_fitted (live_entries report list.pairs) row)) report.pairs }

-- the words of a note without its place
abbrev pub said_in : List ℕ → List ℕ
said_in text = joined (drop (place_length (cut text)) (cut text))

-- a note is accepted by its words, or by its words without its place
abbrev pub accepts_note : AcceptedList → List ℕ → Bool
accepts_note list text = list_any (λ note. bytes_eq note text || bytes_eq note (said_in text)) list.notes
