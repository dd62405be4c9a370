-- What the lines of a list accept on a day.
use Rattle.std.specs.Prelude.{ℕ, List, [], ◌∷◌, flat_map, Option, Some, None, if◌then◌else◌}
use Rattle.accepted_lists.specs.Days.{is_over}
use Rattle.accepted_lists.specs.declared.days.Day.{Day}
use Rattle.accepted_lists.specs.declared.lists.Entry.{Entry}
use Rattle.accepted_lists.specs.declared.lists.Entry.TheVariants.{OnPairs, OnNote}
use Rattle.accepted_lists.specs.declared.lists.ListLine.{ListLine}
use Rattle.accepted_lists.specs.declared.lists.LastDay.{LastDay}
use Rattle.accepted_lists.specs.declared.lists.AcceptedList.{AcceptedList}
use Rattle.accepted_lists.specs.declared.pair_entries.PairEntry.{PairEntry}

abbrev pub pairs_in : Entry → List PairEntry
pairs_in (OnPairs entry) = entry ∷ []
pairs_in (OnNote words) = []

abbrev pub notes_in : Entry → List (List ℕ)
notes_in (OnPairs entry) = []
notes_in (OnNote words) = words ∷ []

-- a line whose last day is over accepts nothing
abbrev pub pairs_on : Option Day → ListLine → List PairEntry
pairs_on today line = if is_over today line.until then [] else pairs_in line.entry

abbrev pub notes_on : Option Day → ListLine → List (List ℕ)
notes_on today line = if is_over today line.until then [] else notes_in line.entry

-- what the lines accept on a day
abbrev pub list_on : Option Day → List ListLine → AcceptedList
list_on today lines = record { pairs = flat_map (pairs_on today) lines; notes = flat_map (notes_on today) lines }

-- the last day of a line that has one
abbrev pub last_day_of : ℕ → Option Day → List LastDay
last_day_of number (Some last) = record { line = number; last = last } ∷ []
last_day_of number None = []

abbrev pub last_days : ListLine → List LastDay
last_days line = last_day_of line.number line.until
