-- The table of a run. Names are shown with a `?` for each byte outside 32 to 126.
use Rattle.std.specs.Prelude.{ℕ, ◌+◌, ◌==◌, Bool, not, if◌then◌else◌, List, [], ◌∷◌, ◌++◌, length, map, flat_map, Option, Some, None, codes}
use Rattle.std.specs.List.{list_any, range_with_len}
use Rattle.std.specs.Fmt.{decimal}
use Rattle.sdcv_base.specs.Shown.{shown}
use Rattle.wave_signals.specs.declared.signals.Signal.{Signal}
use Rattle.wave_signals.specs.Labels.{label, digit_at}
use Rattle.wave_signals.specs.Numbered.{numbered}
use Rattle.shown_runs.specs.DontCares.{is_marked}
use Rattle.shown_runs.specs.Values.{value_text}
use Rattle.shown_runs.specs.declared.tables.TableRow.{TableRow}
use Rattle.shown_runs.specs.declared.headings.Heading.{Heading}
use Rattle.shown_runs.specs.declared.runs.ShownRun.{ShownRun}

-- one text, and then another
infixr 5 ◌⁀◌
abbrev pub ◌⁀◌ : List ℕ → List ℕ → List ℕ
first ⁀ next = first ++ next

-- a bit as a digit
abbrev pub bit_text : Bool → List ℕ
bit_text b = if b then codes "1" else codes "0"

-- the numbers of so many cycles
abbrev pub number_row : ℕ → TableRow
number_row cycles = record { label = codes "cycle"; cells = map decimal (range_with_len 0 cycles) }

-- the digit of an input's bit in a cycle, or `x` where that bit is a don't-care
abbrev pub input_digit : List (List Bool) → ℕ → ℕ → List Bool → List ℕ
input_digit marks cycle input values = if is_marked marks cycle input then codes "x" else digit_at cycle values ∷ []

-- those of a signal, whose first bit is that of this input
abbrev pub input_digits : List (List Bool) → ℕ → Signal → ℕ → List ℕ
input_digits marks input s cycle = numbered (input_digit marks cycle) input s.values

-- those in each cycle
abbrev pub input_cells : List (List Bool) → ℕ → ℕ → Signal → List (List ℕ)
input_cells marks cycles input s = map (input_digits marks input s) (range_with_len 0 cycles)

-- a digit of a cell is a `1` or an `x`
abbrev pub is_set : List ℕ → Bool
is_set cell = list_any (λ digit. not (digit == 48)) cell

-- every digit of every cell is a `0`
abbrev pub is_zero : List (List ℕ) → Bool
is_zero cells = not (list_any is_set cells)

-- a signal by its full name with its indices
abbrev pub name_text : Signal → List ℕ
name_text s = shown (label s)

-- its row with its values, which it has unless it is 0 throughout
abbrev pub value_rows : Signal → List (List ℕ) → List TableRow
value_rows s cells = if is_zero cells then [] else record { label = name_text s; cells = map value_text cells } ∷ []

abbrev pub input_row : List (List Bool) → ℕ → ℕ → Signal → List TableRow
input_row marks cycles input s = value_rows s (input_cells marks cycles input s)

-- its name where it is 0 throughout
abbrev pub zero_name : List (List Bool) → ℕ → ℕ → Signal → List (List ℕ)
zero_name marks cycles input s = if is_zero (input_cells marks cycles input s) then name_text s ∷ [] else []

-- what is made of signals whose bits are the inputs from this one on, given the first input of each
unfoldable pub walked : {A : Type 0} → (ℕ → Signal → List A) → ℕ → List Signal → List A
walked made input [] = []
walked made input (s ∷ rest) = made input s ++ walked made (input + length s.values) rest

-- a bit in each cycle
abbrev pub bits_row : List ℕ → List Bool → TableRow
bits_row name bits = record { label = name; cells = map bit_text bits }

abbrev pub start_label : Heading → List ℕ
start_label h = codes "start " ⁀ shown h.start

abbrev pub end_label : Heading → List ℕ
end_label h = codes "end " ⁀ shown h.end

-- the end, where it is a register
abbrev pub end_rows : Heading → Option (List Bool) → List TableRow
end_rows h None = []
end_rows h (Some bits) = bits_row (end_label h) bits ∷ []

-- the start, the end and the captures
abbrev pub ends_rows : Heading → ShownRun → List TableRow
ends_rows h s = bits_row (start_label h) s.start ∷ (end_rows h s.end ++ bits_row (codes "captured") s.captured ∷ [])

-- the numbers of the cycles, the inputs that are not 0 throughout, the start, the end and the captures
unfoldable pub rows : Heading → ShownRun → List TableRow
rows h s = number_row s.cycles ∷ (walked (input_row s.dont_cares s.cycles) 0 s.inputs ++ ends_rows h s)

-- the inputs that are 0 throughout
abbrev pub zero_names : ShownRun → List (List ℕ)
zero_names s = walked (zero_name s.dont_cares s.cycles) 0 s.inputs

abbrev pub spaced : List ℕ → List ℕ
spaced name = codes " " ⁀ name

-- a line with their names, where there are any
abbrev pub zeros_text : List (List ℕ) → List ℕ
zeros_text names = codes "0 throughout:" ⁀ flat_map spaced names

abbrev pub zeros_among : List (List ℕ) → List (List ℕ)
zeros_among [] = []
zeros_among (name ∷ rest) = zeros_text (name ∷ rest) ∷ []

unfoldable pub zero_lines : ShownRun → List (List ℕ)
zero_lines s = zeros_among (zero_names s)
