-- A report by lines.
use Rattle.std.specs.Prelude.{ℕ, ◌+◌, ◌-◌, ◌==◌, ◌&&◌, ◌||◌, Bool, nat_lt, List, length, drop, codes, Option, Some, None, if◌then◌else◌}
use Rattle.std.specs.List.{position_from}
use Rattle.std.specs.Str.{bytes_eq}
use Rattle.texts.specs.Reads.{◌>>=◌}
use Rattle.report_rows.specs.Words.{word_at, is_word, part, joined, number_in}
use Rattle.report_rows.specs.Rows.{verdict_in, with_script, last_script, with_pair}
use Rattle.report_rows.specs.Tellings.{with_top, with_clock, with_cut, with_skipped, with_unjudged, with_note}
use Rattle.report_rows.specs.declared.pair_lines.PairPlaces.{PairPlaces}
use Rattle.report_rows.specs.declared.script_lines.CommandPlaces.{CommandPlaces}
use Rattle.report_rows.specs.declared.reports.Said.TheVariants.{Does, Warns}
use Rattle.report_rows.specs.declared.reports.ScriptRow.{ScriptRow}
use Rattle.report_rows.specs.declared.reports.PairRow.{PairRow}
use Rattle.report_rows.specs.declared.reports.Report.{Report}
use Rattle.report_rows.specs.declared.totals.Tally.{Tally}

-- an exception of which nothing is claimed: one for hold checks, or one that is set aside
abbrev pub claims_nothing : List (List ℕ) → Bool
claims_nothing ws = is_word ws 4 (codes "hold") || is_word ws 4 (codes "aside")

-- of how many pairs an exception claims something: `pairs P` ends its line
unfoldable pub claimed_of : List (List ℕ) → Option ℕ
claimed_of ws = if nat_lt 6 (length ws) && is_word ws (length ws - 2) (codes "pairs") then number_in (word_at ws (length ws - 1)) else None

-- where the words end that say what an exception does, and of how many pairs it claims that
unfoldable pub deed_of : List (List ℕ) → Option (ℕ × ℕ)
deed_of ws = if claims_nothing ws then Some (length ws, 0) else (claimed_of ws >>= λ pairs. Some (length ws - 2, pairs))

-- what is found at the places of an exception's line
unfoldable pub command_of : List (List ℕ) → Option CommandPlaces
command_of ws =
    if is_word ws 2 (codes "line") then
    (number_in (word_at ws 1) >>= λ command. number_in (word_at ws 3) >>= λ line. deed_of ws >>= λ deed.
    Some (record { command = command; line = line; upto = deed.0; pairs = deed.1 }))
    else None

-- the row of an exception's line: `command N line L WHAT.. pairs P`, or `command N line L hold`, or `command N line L aside OPTION`
abbrev pub command_row : List (List ℕ) → CommandPlaces → ScriptRow
command_row ws p = record { command = p.command; line = p.line; said = Does (joined (part ws 4 p.upto)) p.pairs }

-- the report with the row of an exception's line
abbrev pub with_command : Report → List (List ℕ) → Option Report
with_command found ws = command_of ws >>= λ p. Some (with_script found (command_row ws p))

-- the line in the script of the exception on which a warning is: that of the row that came last, by its number
unfoldable pub warned_line : Report → ℕ → Option ℕ
warned_line found command = last_script found >>= λ last. if last.command == command then Some last.line else None

-- the number of the exception on which a warning is, and its line in the script
unfoldable pub warned_of : Report → List (List ℕ) → Option (ℕ × ℕ)
warned_of found ws =
    if is_word ws 1 (codes "command") then (number_in (word_at ws 2) >>= λ command. warned_line found command >>= λ line. Some (command, line)) else None

-- the report with the row of a warning's line: `warning command N TEXT..`
abbrev pub with_warning : Report → List (List ℕ) → Option Report
with_warning found ws =
    warned_of found ws >>= λ w. Some (with_script found (record { command = w.0; line = w.1; said = Warns (joined (drop 3 ws)) }))

-- the place of the word `->`: the first one that leaves room for a kind and a start before it
unfoldable pub arrow_of : List (List ℕ) → Option ℕ
arrow_of ws = position_from (λ w. bytes_eq w (codes "->")) 6 (drop 6 ws)

-- what is found at the places of a pair's line, which has a word or more after its verdict
unfoldable pub places_of : List (List ℕ) → Option PairPlaces
places_of ws =
    if is_word ws 2 (codes "command") then
    (number_in (word_at ws 1) >>= λ number. number_in (word_at ws 3) >>= λ command. arrow_of ws >>= λ arrow. verdict_in (word_at ws (arrow + 2)) >>= λ verdict.
    if nat_lt (arrow + 3) (length ws) then Some (record { number = number; command = command; arrow = arrow; verdict = verdict }) else None)
    else None

-- the row of a pair's line: `pair N command C KIND.. START -> END VERDICT WHY..`
abbrev pub row_of : List (List ℕ) → PairPlaces → PairRow
row_of ws p = record {
  number = p.number;
  command = p.command;
  kind = joined (part ws 4 (p.arrow - 1));
  start = word_at ws (p.arrow - 1);
  end = word_at ws (p.arrow + 1);
  verdict = p.verdict;
  why = joined (drop (p.arrow + 3) ws);
}

-- the report with the row of a pair's line
abbrev pub with_pair_line : Report → List (List ℕ) → Option Report
with_pair_line found ws = places_of ws >>= λ p. with_pair found (row_of ws p)

-- a line of a stimulus, which is passed over here
abbrev pub is_stimulus : List (List ℕ) → Bool
is_stimulus ws = is_word ws 0 (codes "stimulus") || (is_word ws 0 (codes "state") || (is_word ws 0 (codes "input") || is_word ws 0 (codes "end")))

-- a warning's line is on a command that is not judged, or on an exception
abbrev pub with_any_warning : ℕ → Report → List (List ℕ) → Option Report
with_any_warning number found ws = if is_word ws 1 (codes "line") then with_unjudged number found ws else with_warning found ws

-- the line is on the netlist, or is one of a stimulus
abbrev pub with_netlist_line : ℕ → Report → List (List ℕ) → Option Report
with_netlist_line number found ws =
    if is_word ws 0 (codes "top") then with_top number found ws
    else (if is_word ws 0 (codes "clock") then with_clock number found ws
    else (if is_word ws 0 (codes "cut") then with_cut number found ws else (if is_stimulus ws then Some found else None)))

-- the report with what the words of the line of this number say
unfoldable pub with_line : ℕ → Report → List (List ℕ) → Option Report
with_line number found ws =
    if is_word ws 0 (codes "command") then with_command found ws
    else (if is_word ws 0 (codes "warning") then with_any_warning number found ws
    else (if is_word ws 0 (codes "pair") then with_pair_line found ws
    else (if is_word ws 0 (codes "skipped") then with_skipped number found ws
    else (if is_word ws 0 (codes "note") then with_note number found ws
    else with_netlist_line number found ws))))

-- the line begins as the last one does
abbrev pub begins_total : List (List ℕ) → Bool
begins_total ws = is_word ws 0 (codes "total")

-- the words of the last line but for its numbers
abbrev pub has_totals : List (List ℕ) → Bool
has_totals ws = begins_total ws && (is_word ws 2 (codes "justified") && (is_word ws 4 (codes "refuted") && (is_word ws 6 (codes "undecided") && length ws == 8)))

-- the totals of the last line: `total N justified J refuted R undecided U`
unfoldable pub total_of : List (List ℕ) → Option Tally
total_of ws =
    if has_totals ws then
    (number_in (word_at ws 1) >>= λ pairs. number_in (word_at ws 3) >>= λ justified. number_in (word_at ws 5) >>= λ refuted.
    number_in (word_at ws 7) >>= λ undecided.
    Some (record { pairs = pairs; justified = justified; refuted = refuted; undecided = undecided }))
    else None
