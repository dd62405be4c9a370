-- The first line of a report.
use Rattle.std.specs.Prelude.{ℕ, ◌==◌, nat_le, ◌&&◌, Bool, List, [], drop, length, codes, Option, Some, None, if◌then◌else◌}
use Rattle.std.specs.Option.{option_map}
use Rattle.texts.specs.Reads.{◌>>=◌}
use Rattle.report_rows.specs.Words.{word_at, is_word, number_in}
use Rattle.report_rows.specs.Rows.{hazard_in}
use Rattle.report_rows.specs.declared.heads.Asked.{Asked}
use Rattle.report_rows.specs.declared.heads.Head.{Head}
use Rattle.report_rows.specs.declared.reports.Report.{Report}

-- a report that has no row yet
abbrev pub rowless : Head → Report
rowless h = record { head = h; told = []; script = []; pairs = [] }

-- the number that follows a word, where the words begin with it; and what is left after both, and after a word alone
abbrev pub number_after : List (List ℕ) → List ℕ → Option (Option ℕ)
number_after ws word = if is_word ws 0 word then option_map Some (number_in (word_at ws 1)) else Some None

abbrev pub past_number : List (List ℕ) → List ℕ → List (List ℕ)
past_number ws word = if is_word ws 0 word then drop 2 ws else ws

abbrev pub past_word : List (List ℕ) → List ℕ → List (List ℕ)
past_word ws word = if is_word ws 0 word then drop 1 ws else ws

-- the lag is 0 where the words don't begin with one
abbrev pub lag_after : List (List ℕ) → Option ℕ
lag_after ws = if is_word ws 0 (codes "lag") then number_in (word_at ws 1) else Some 0

-- what the last words of the line ask for
unfoldable pub asked_last : List (List ℕ) → Option Asked
asked_last ws =
    let after_assist = past_number ws (codes "assist") in
    let after_free = past_number after_assist (codes "free") in
    let after_assumed = past_number after_free (codes "assumed") in
    number_after ws (codes "assist") >>= λ assist. number_after after_assist (codes "free") >>= λ free.
    number_after after_free (codes "assumed") >>= λ assumed.
    if length (past_word after_assumed (codes "strict")) == 0
    then Some (record { assist = assist; free = free; assumed = assumed; strict = is_word after_assumed 0 (codes "strict") }) else None

abbrev pub begins_report : List (List ℕ) → Bool
begins_report ws =
    nat_le 12 (length ws) && (is_word ws 0 (codes "sdcv") && (is_word ws 1 (codes "1") && (is_word ws 2 (codes "mode") && is_word ws 4 (codes "reset"))))

-- `sdcv 1 mode M reset N depth D budget B inv I`, and then, each where it is asked for, `lag L`, `hold`, `assist K`, `free F`, `assumed A`
-- and `strict`
unfoldable pub head_of : List (List ℕ) → Option Head
head_of ws =
    let more = drop 12 ws in
    let after_lag = past_number more (codes "lag") in
    if begins_report ws then
    (hazard_in (word_at ws 3) >>= λ hazard. number_in (word_at ws 5) >>= λ reset. lag_after more >>= λ lag.
    asked_last (past_word after_lag (codes "hold")) >>= λ asked.
    Some (record { hazard = hazard; reset = reset; lag = lag; hold = is_word after_lag 0 (codes "hold"); asked = asked }))
    else None
