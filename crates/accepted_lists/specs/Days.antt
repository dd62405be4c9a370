-- Days, as YYYY-MM-DD.
use Rattle.std.specs.Prelude.{ℕ, ◌==◌, ◌/◌, ◌%◌, ◌&&◌, ◌||◌, Bool, false, not, nat_le, nat_lt, List, ◌++◌, length, take, drop, codes, slice_index, Option, Some, None, if◌then◌else◌}
use Rattle.std.specs.Fmt.{decimal}
use Rattle.texts.specs.Reads.{◌>>=◌}
use Rattle.report_rows.specs.Words.{number_in}
use Rattle.accepted_lists.specs.declared.days.Day.{Day}

-- a leap year of the Gregorian calendar
abbrev pub is_leap : ℕ → Bool
is_leap year = (year % 4 == 0 && not (year % 100 == 0)) || year % 400 == 0

-- how many days a month has
abbrev pub days_in : ℕ → ℕ → ℕ
days_in year month =
    if month == 2 then (if is_leap year then 29 else 28)
    else (if month == 4 || (month == 6 || (month == 9 || month == 11)) then 30 else 31)

-- the calendar has the day
abbrev pub is_day : Day → Bool
is_day d = nat_le 1 d.month && (nat_le d.month 12 && (nat_le 1 d.date && nat_le d.date (days_in d.year d.month)))

-- the fifth byte and the eighth are a `-`
abbrev pub has_dashes : List ℕ → Bool
has_dashes w = slice_index w 4 == 45 && slice_index w 7 == 45

-- the three numbers of such a word
unfoldable pub numbers_in : List ℕ → Option Day
numbers_in w =
    number_in (take 4 w) >>= λ year. number_in (take 2 (drop 5 w)) >>= λ month. number_in (drop 8 w) >>= λ date.
    Some (record { year = year; month = month; date = date })

-- the day, where the calendar has it
abbrev pub within_calendar : Day → Option Day
within_calendar d = if is_day d then Some d else None

-- the day that a word of ten bytes is
abbrev pub day_of : List ℕ → Option Day
day_of w = if length w == 10 then (if has_dashes w then (numbers_in w >>= within_calendar) else None) else None

-- the one day comes before the other
abbrev pub is_before : Day → Day → Bool
is_before d e = nat_lt d.year e.year || (d.year == e.year && (nat_lt d.month e.month || (d.month == e.month && nat_lt d.date e.date)))

-- the day's text
abbrev pub day_text : Day → List ℕ
day_text d =
    decimal (d.year / 1000) ++ (decimal (d.year / 100 % 10) ++ (decimal (d.year / 10 % 10) ++ (decimal (d.year % 10) ++ (codes "-"
    ++ (decimal (d.month / 10) ++ (decimal (d.month % 10) ++ (codes "-" ++ (decimal (d.date / 10) ++ decimal (d.date % 10)))))))))

-- the last day of an entry is over today; without a last day, or where no day is given, nothing is
abbrev pub is_over : Option Day → Option Day → Bool
is_over (Some today) (Some last) = is_before last today
is_over (Some today) None = false
is_over None last = false
