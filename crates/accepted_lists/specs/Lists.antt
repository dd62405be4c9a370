-- What a text says as the lines of an accepted list, or its first line that is none of one.
use Rattle.std.specs.Prelude.{◌≡◌, ℕ, ◌+◌, ◌-◌, ◌==◌, ◌&&◌, Bool, nat_lt, List, [], ◌∷◌, ◌++◌, length, codes, Option, Some, None, Result, Ok, Err, if◌then◌else◌}
use Rattle.std.specs.Option.{option_map}
use Rattle.texts.specs.Reads.{◌>>=◌}
use Rattle.report_rows.specs.Words.{pieces, word_at, is_word, part, joined}
use Rattle.accepted_lists.specs.Days.{day_of}
use Rattle.accepted_lists.specs.Entries.{entry_words, pair_entry, is_note}
use Rattle.accepted_lists.specs.declared.days.Day.{Day}
use Rattle.accepted_lists.specs.declared.lists.Entry.{Entry}
use Rattle.accepted_lists.specs.declared.lists.Entry.TheVariants.{OnPairs, OnNote}
use Rattle.accepted_lists.specs.declared.lists.ListLine.{ListLine}
use Rattle.accepted_lists.specs.declared.lists.ListFault.{ListFault}
use Rattle.accepted_lists.specs.declared.lists.ListFault.TheVariants.{Line, Memory}

-- what the words of an entry accept: an entry is one on pairs where its second word is `->`
unfoldable pub entry_of : List (List ℕ) → Option Entry
entry_of ws =
    if is_word ws 1 (codes "->") then option_map OnPairs (pair_entry ws)
    else (if is_note ws then Some (OnNote (joined ws)) else None)

-- the lines with one more, of this number, which these words say up to and with a last day
abbrev pub with_entry : ℕ → Option Day → List ListLine → List (List ℕ) → Option (List ListLine)
with_entry number until lines ws = entry_of ws >>= λ entry. Some (lines ++ record { number = number; entry = entry; until = until } ∷ [])

-- an entry has a last day where it ends in `until` and a word more
abbrev pub is_dated : List (List ℕ) → Bool
is_dated ws = nat_lt 2 (length ws) && is_word ws (length ws - 2) (codes "until")

abbrev pub with_dated : ℕ → List ListLine → List (List ℕ) → Option (List ListLine)
with_dated number lines ws = day_of (word_at ws (length ws - 1)) >>= λ last. with_entry number (Some last) lines (part ws 0 (length ws - 2))

-- the lines with what the words of one more say, if anything
unfoldable pub with_words : ℕ → List ListLine → List (List ℕ) → Option (List ListLine)
with_words number lines ws = if length ws == 0 then Some lines else (if is_dated ws then with_dated number lines ws else with_entry number None lines ws)

abbrev pub with_line : ℕ → List ListLine → List ℕ → Option (List ListLine)
with_line number lines line = with_words number lines (entry_words line)

-- the lines, or the fault at the line of this number and what further lines say
abbrev pub then_lines : ℕ → Option (List ListLine) → (List ListLine → Result (List ListLine) ListFault) → Result (List ListLine) ListFault
then_lines number None next = Err (Line number)
then_lines number (Some lines) next = next lines

-- the lines with what further ones say, of which the first has this number
unfoldable pub with_lines : ℕ → List ListLine → List (List ℕ) → Result (List ListLine) ListFault
with_lines number lines [] = Ok lines
with_lines number lines (line ∷ others) = then_lines number (with_line number lines line) (λ more. with_lines (number + 1) more others)

-- a text as the lines of an accepted list, or its first line that is none of one
abbrev pub listed : List ℕ → Result (List ListLine) ListFault
listed text = with_lines 1 [] (pieces text)

-- the fault is the one that is found, unless memory ran out
abbrev pub IsListFault : Result (List ListLine) ListFault → ListFault → Type 0
IsListFault found (Line n) = found ≡ Err (Line n)
IsListFault found Memory = Unit {0}
