-- What a report by lines tells of a netlist, and of a script beside its exceptions: lines right after the first one.
use Rattle.std.specs.Prelude.{ℕ, ◌+◌, ◌-◌, ◌==◌, ◌&&◌, ◌||◌, Bool, true, false, not, nat_lt, List, length, drop, slice_get, slice_index, codes}
use Rattle.std.specs.Prelude.{Option, Some, None, is_some, if◌then◌else◌}
use Rattle.texts.specs.Reads.{◌>>=◌}
use Rattle.report_rows.specs.Words.{word_at, is_word, part, joined, number_in}
use Rattle.report_rows.specs.Rows.{with_told}
use Rattle.report_rows.specs.declared.heads.Head.{Head}
use Rattle.report_rows.specs.declared.reports.Told.{Told}
use Rattle.report_rows.specs.declared.reports.Told.TheVariants.{Top, Clock, Cut, Skipped, Unjudged, HoldSides}
use Rattle.report_rows.specs.declared.reports.Report.{Report}

-- the number of decimal digits that begin with no 0, so it is above 0
abbrev pub count_of : List ℕ → Option ℕ
count_of w = if slice_index w 0 == 48 then None else number_in w

-- in which order the rows come, and whether there may be several of a kind
abbrev pub rank : Told → ℕ
rank (Top name) = 0
rank (Clock name) = 1
rank (Cut cell count may_lead) = 2
rank (Skipped name count) = 3
rank (Unjudged line name) = 4
rank (HoldSides count) = 5

abbrev pub may_repeat : Told → Bool
may_repeat (Top name) = false
may_repeat (Clock name) = false
may_repeat (Cut cell count may_lead) = true
may_repeat (Skipped name count) = true
may_repeat (Unjudged line name) = true
may_repeat (HoldSides count) = false

-- a row may come after another
abbrev pub may_follow : Told → Told → Bool
may_follow last next = nat_lt (rank last) (rank next) || (rank last == rank next && may_repeat next)

abbrev pub may_follow_last : Option Told → Told → Bool
may_follow_last None next = true
may_follow_last (Some last) next = may_follow last next

abbrev pub last_told : Report → Option Told
last_told found = slice_get found.told (length found.told - 1)

-- a report says of a netlist where cells may be cut out of it; a report of hold sides says not that they are not judged, and one that is
-- not strict says of nothing that it is not judged
abbrev pub tells_cuts : Head → Bool
tells_cuts h = is_some h.asked.free

abbrev pub tells_holds : Head → Bool
tells_holds h = h.asked.strict && not h.hold

abbrev pub may_tell : Head → Told → Bool
may_tell h (Top name) = tells_cuts h
may_tell h (Clock name) = tells_cuts h
may_tell h (Cut cell count may_lead) = tells_cuts h
may_tell h (Skipped name count) = true
may_tell h (Unjudged line name) = h.asked.strict
may_tell h (HoldSides count) = tells_holds h

-- the row of the line of this number stands in its place: right after the first line and those of the rows before
abbrev pub stands_at : ℕ → Report → Told → Bool
stands_at number found row = number == length found.told + 2 && (may_follow_last (last_told found) row && may_tell found.head row)

-- the report with the row of the line of this number
abbrev pub with_told_at : ℕ → Report → Told → Option Report
with_told_at number found row = if stands_at number found row then Some (with_told found row) else None

-- the name after the first word
abbrev pub name_of : List (List ℕ) → Option (List ℕ)
name_of ws = if nat_lt 1 (length ws) then Some (joined (drop 1 ws)) else None

-- `top NAME`
abbrev pub with_top : ℕ → Report → List (List ℕ) → Option Report
with_top number found ws = name_of ws >>= λ name. with_told_at number found (Top name)

-- `clock NAME`
abbrev pub with_clock : ℕ → Report → List (List ℕ) → Option Report
with_clock number found ws = name_of ws >>= λ name. with_told_at number found (Clock name)

-- `cut REF COUNT`, with `open` after it where a path may lead through such cells; and how many words the line has but for that one
abbrev pub may_lead : List (List ℕ) → Bool
may_lead ws = is_word ws (length ws - 1) (codes "open")

abbrev pub cut_upto : List (List ℕ) → ℕ
cut_upto ws = if may_lead ws then length ws - 1 else length ws

unfoldable pub cut_count : List (List ℕ) → ℕ → Option ℕ
cut_count ws upto = if nat_lt 2 upto then count_of (word_at ws (upto - 1)) else None

abbrev pub with_cut : ℕ → Report → List (List ℕ) → Option Report
with_cut number found ws =
    cut_count ws (cut_upto ws) >>= λ count. with_told_at number found (Cut (joined (part ws 1 (cut_upto ws - 1))) count (may_lead ws))

-- `skipped NAME COUNT`
unfoldable pub skipped_count : List (List ℕ) → Option ℕ
skipped_count ws = if nat_lt 2 (length ws) then count_of (word_at ws (length ws - 1)) else None

abbrev pub with_skipped : ℕ → Report → List (List ℕ) → Option Report
with_skipped number found ws =
    skipped_count ws >>= λ count. with_told_at number found (Skipped (joined (part ws 1 (length ws - 1))) count)

-- `warning line L unjudged NAME`
unfoldable pub unjudged_line : List (List ℕ) → Option ℕ
unjudged_line ws = if nat_lt 4 (length ws) && is_word ws 3 (codes "unjudged") then count_of (word_at ws 2) else None

abbrev pub with_unjudged : ℕ → Report → List (List ℕ) → Option Report
with_unjudged number found ws = unjudged_line ws >>= λ line. with_told_at number found (Unjudged line (joined (drop 4 ws)))

-- `note hold side not judged commands COUNT`
abbrev pub notes_holds : List (List ℕ) → Bool
notes_holds ws =
    length ws == 7 && (is_word ws 1 (codes "hold") && (is_word ws 2 (codes "side") && (is_word ws 3 (codes "not")
    && (is_word ws 4 (codes "judged") && is_word ws 5 (codes "commands")))))

unfoldable pub noted_count : List (List ℕ) → Option ℕ
noted_count ws = if notes_holds ws then count_of (word_at ws 6) else None

abbrev pub with_note : ℕ → Report → List (List ℕ) → Option Report
with_note number found ws = noted_count ws >>= λ count. with_told_at number found (HoldSides count)
