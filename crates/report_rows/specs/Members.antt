-- A report as JSON (RFC 8259): an object whose further members are passed over.
use Rattle.std.specs.Prelude.{ℕ, ◌==◌, Bool, false, List, [], ◌∷◌, codes, Option, Some, None, option_and_then, is_none, if◌then◌else◌}
use Rattle.std.specs.Option.{option_map}
use Rattle.serde_json.specs.Data.{Data, Items, no_items, item}
use Rattle.serde_json.specs.Find.{get, as_array, as_bool, as_str, as_number, as_u64}
use Rattle.texts.specs.Reads.{◌>>=◌}
use Rattle.report_rows.specs.Rows.{verdict_in, hazard_in, with_told, with_script, with_pair}
use Rattle.report_rows.specs.Heads.{rowless}
use Rattle.report_rows.specs.declared.heads.Asked.{Asked}
use Rattle.report_rows.specs.declared.heads.Head.{Head}
use Rattle.report_rows.specs.Tellings.{tells_cuts, tells_holds}
use Rattle.report_rows.specs.declared.reports.Told.TheVariants.{Top, Clock, Cut, Skipped, Unjudged, HoldSides}
use Rattle.report_rows.specs.declared.reports.Said.TheVariants.{Does, Warns}
use Rattle.report_rows.specs.declared.reports.ScriptRow.{ScriptRow}
use Rattle.report_rows.specs.declared.reports.PairRow.{PairRow}
use Rattle.report_rows.specs.declared.reports.Report.{Report}
use Rattle.report_rows.specs.declared.totals.Tally.{Tally}
use Rattle.report_rows.specs.declared.totals.Totalled.{Totalled}

-- the values of an array in order
abbrev pub list_of : Items → List Data
list_of no_items = []
list_of (item d ds) = d ∷ list_of ds

-- the text, the number and the array of a key, and the values in it
abbrev pub text_in : List ℕ → Data → Option (List ℕ)
text_in key d = option_and_then as_str (get key d)

abbrev pub count_in : List ℕ → Data → Option ℕ
count_in key d = option_and_then as_u64 (option_and_then as_number (get key d))

abbrev pub array_in : List ℕ → Data → Option Items
array_in key d = option_and_then as_array (get key d)

abbrev pub list_in : List ℕ → Data → Option (List Data)
list_in key d = option_map list_of (array_in key d)

-- the key is missing
abbrev pub lacks : List ℕ → Data → Bool
lacks key d = is_none (get key d)

-- the lag, which is 0 where the key is missing
unfoldable pub lag_in : Data → Option ℕ
lag_in d = go (get (codes "lag") d)
  where
    go : Option Data → Option ℕ
    go None = Some 0
    go (Some v) = option_and_then as_u64 (as_number v)

-- a number that stands only where it is asked for, and a word, which is false where the key is missing
unfoldable pub number_asked : List ℕ → Data → Option (Option ℕ)
number_asked key d = go (get key d)
  where
    go : Option Data → Option (Option ℕ)
    go None = Some None
    go (Some v) = option_map Some (option_and_then as_u64 (as_number v))

unfoldable pub flag_asked : List ℕ → Data → Option Bool
flag_asked key d = go (get key d)
  where
    go : Option Data → Option Bool
    go None = Some false
    go (Some v) = as_bool v

-- what else is asked for
unfoldable pub asked_in : Data → Option Asked
asked_in d =
    number_asked (codes "assist") d >>= λ assist. number_asked (codes "free") d >>= λ free. number_asked (codes "assumed") d >>= λ assumed.
    flag_asked (codes "strict") d >>= λ strict.
    Some (record { assist = assist; free = free; assumed = assumed; strict = strict })

-- what all of these add to what is found
unfoldable pub with_all : {S A : Type 0} → (S → A → Option S) → S → List A → Option S
with_all adds found [] = Some found
with_all adds found (x ∷ xs) = adds found x >>= λ more. with_all adds more xs

-- the row of a pair
unfoldable pub pair_in : Data → Option PairRow
pair_in d =
    count_in (codes "number") d >>= λ number. count_in (codes "command") d >>= λ command. text_in (codes "kind") d >>= λ kind.
    text_in (codes "start") d >>= λ start. text_in (codes "end") d >>= λ end. text_in (codes "verdict") d >>= λ word. verdict_in word >>= λ verdict.
    text_in (codes "why") d >>= λ why.
    Some (record { number = number; command = command; kind = kind; start = start; end = end; verdict = verdict; why = why })

abbrev pub with_pair_data : Report → Data → Option Report
with_pair_data found d = pair_in d >>= with_pair found

-- a warning on the exception of this number, which stands at this line of the script
abbrev pub with_warning_data : ℕ → ℕ → Report → Data → Option Report
with_warning_data command line found d =
    as_str d >>= λ text. Some (with_script found (record { command = command; line = line; said = Warns text }))

-- the row of an exception, and its warnings
unfoldable pub command_in : Data → Option ScriptRow
command_in d =
    count_in (codes "number") d >>= λ command. count_in (codes "line") d >>= λ line. text_in (codes "what") d >>= λ what.
    count_in (codes "pairs") d >>= λ pairs. Some (record { command = command; line = line; said = Does what pairs })

abbrev pub with_command_data : Report → Data → Option Report
with_command_data found d =
    command_in d >>= λ row. list_in (codes "warnings") d >>= λ warnings.
    with_all (with_warning_data row.command row.line) (with_script found row) warnings

-- the members before the lists
unfoldable pub head_in : Data → Option Head
head_in d =
    text_in (codes "mode") d >>= λ mode. hazard_in mode >>= λ hazard. count_in (codes "reset") d >>= λ reset. lag_in d >>= λ lag.
    flag_asked (codes "hold") d >>= λ hold. asked_in d >>= λ asked.
    Some (record { hazard = hazard; reset = reset; lag = lag; hold = hold; asked = asked })

-- the totals of an object
unfoldable pub total_in : Data → Option Tally
total_in d =
    get (codes "total") d >>= λ total. count_in (codes "pairs") total >>= λ pairs. count_in (codes "justified") total >>= λ justified.
    count_in (codes "refuted") total >>= λ refuted. count_in (codes "undecided") total >>= λ undecided.
    Some (record { pairs = pairs; justified = justified; refuted = refuted; undecided = undecided })

-- the truth of a key
abbrev pub flag_in : List ℕ → Data → Option Bool
flag_in key d = option_and_then as_bool (get key d)

-- the row of a reference of which cells are cut out
abbrev pub with_cut_data : Report → Data → Option Report
with_cut_data found d =
    text_in (codes "name") d >>= λ cell. count_in (codes "cells") d >>= λ count. flag_in (codes "open") d >>= λ leads.
    Some (with_told found (Cut cell count leads))

-- the row of a name of which commands are passed over, and of a command that is not judged
abbrev pub with_skipped_data : Report → Data → Option Report
with_skipped_data found d =
    text_in (codes "name") d >>= λ name. count_in (codes "count") d >>= λ count. Some (with_told found (Skipped name count))

abbrev pub with_unjudged_data : Report → Data → Option Report
with_unjudged_data found d =
    count_in (codes "line") d >>= λ line. text_in (codes "name") d >>= λ name. Some (with_told found (Unjudged line name))

-- the report, where the key is missing
abbrev pub without : List ℕ → Report → Data → Option Report
without key found d = if lacks key d then Some found else None

-- the name of a key, where the key stands; it may do so where the report says of the netlist
abbrev pub name_in : List ℕ → Data → Option (Option (List ℕ))
name_in key d = text_in key d >>= λ name. Some (Some name)

abbrev pub name_asked : Report → List ℕ → Data → Option (Option (List ℕ))
name_asked found key d = if lacks key d then Some None else (if tells_cuts found.head then name_in key d else None)

-- where the first line has the word and there alone, the rows on the top module and the clock, where their keys stand, and those on cells
-- that are cut out
abbrev pub with_top : Report → Option (List ℕ) → Report
with_top found None = found
with_top found (Some name) = with_told found (Top name)

abbrev pub with_top_in : Report → Data → Option Report
with_top_in found d = name_asked found (codes "top") d >>= λ name. Some (with_top found name)

abbrev pub with_clock : Report → Option (List ℕ) → Report
with_clock found None = found
with_clock found (Some name) = with_told found (Clock name)

abbrev pub with_clock_in : Report → Data → Option Report
with_clock_in found d = name_asked found (codes "clock") d >>= λ name. Some (with_clock found name)

abbrev pub with_cuts_in : Report → Data → Option Report
with_cuts_in found d =
    if tells_cuts found.head then (list_in (codes "cuts") d >>= λ rows. with_all with_cut_data found rows)
    else without (codes "cuts") found d

unfoldable pub with_netlist_in : Report → Data → Option Report
with_netlist_in found d = with_top_in found d >>= λ topped. with_clock_in topped d >>= λ clocked. with_cuts_in clocked d

-- the rows on what is passed over, where the key stands; and, where the first line has the words and there alone, those on what is not
-- judged, and that on hold sides, of which there may be none
abbrev pub with_skipped_in : Report → Data → Option Report
with_skipped_in found d =
    if lacks (codes "skipped") d then Some found else (list_in (codes "skipped") d >>= λ rows. with_all with_skipped_data found rows)

abbrev pub with_unjudged_in : Report → Data → Option Report
with_unjudged_in found d =
    if found.head.asked.strict then (list_in (codes "unjudged") d >>= λ rows. with_all with_unjudged_data found rows)
    else without (codes "unjudged") found d

abbrev pub with_holds : Report → ℕ → Report
with_holds found count = if count == 0 then found else with_told found (HoldSides count)

abbrev pub with_holds_in : Report → Data → Option Report
with_holds_in found d =
    if tells_holds found.head then (count_in (codes "hold_commands") d >>= λ count. Some (with_holds found count))
    else without (codes "hold_commands") found d

unfoldable pub with_told_in : Report → Data → Option Report
with_told_in found d =
    with_netlist_in found d >>= λ first. with_skipped_in first d >>= λ more. with_unjudged_in more d >>= λ all. with_holds_in all d

-- the rows of an object
unfoldable pub report_in : Data → Option Report
report_in d =
    head_in d >>= λ head. list_in (codes "commands") d >>= λ commands. list_in (codes "pairs") d >>= λ pairs.
    with_told_in (rowless head) d >>= λ told. with_all with_command_data told commands >>= λ more. with_all with_pair_data more pairs

-- what an object says: its rows, and its totals
unfoldable pub totalled_in : Data → Option Totalled
totalled_in d = report_in d >>= λ report. total_in d >>= λ total. Some (record { report = report; total = total })
