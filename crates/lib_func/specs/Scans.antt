-- What a byte of a function may be, by where it stands: parentheses are counted, and operators need no order.
use Rattle.std.specs.Prelude.{ℕ, ◌+◌, ◌-◌, ◌==◌, ◌||◌, Bool, false, if◌then◌else◌, List, Option, Some, None}
use Rattle.texts.specs.Bytes.{is_letter, is_word}
use Rattle.texts.specs.Fronts.{first}
use Rattle.lib_words.specs.Blanks.{is_blank}
use Rattle.lib_func.specs.declared.scans.Spot.{Spot}
use Rattle.lib_func.specs.declared.scans.Spot.TheVariants.{Before, Name, After}
use Rattle.lib_func.specs.Operators.{begins_operand, is_or, is_and}

-- `+`, `|`, `*`, `&` or `^`
abbrev pub is_operator : ℕ → Bool
is_operator b = is_or b || (is_and b || b == 94)

-- how many parentheses are open
abbrev pub opened : Spot → ℕ
opened (Before k) = k
opened (Name k) = k
opened (After k) = k

-- after the first byte of an operand: `0`, `1`, a letter or `_`, `(` or `!`
unfoldable pub begun : ℕ → ℕ → Option Spot
begun k b =
    if b == 48 then Some (After k)
    else if b == 49 then Some (After k)
    else if is_letter b then Some (Name k)
    else if b == 40 then Some (Before (k + 1))
    else if b == 33 then Some (Before k)
    else None

-- after the byte that follows an operand: of a further one, an operator, `'` or `)`
unfoldable pub followed : ℕ → ℕ → Option Spot
followed k b =
    if begins_operand b then begun k b
    else if is_operator b then Some (Before k)
    else if b == 39 then Some (After k)
    else if b == 41 then (if k == 0 then None else Some (After (k - 1)))
    else None

abbrev pub after_operand : ℕ → List ℕ → Option Spot
after_operand k s = if is_blank s then Some (After k) else followed k (first s)

-- one byte on, with white space passed over; nothing where no function goes on like this
unfoldable pub turned : Spot → List ℕ → Option Spot
turned (Before k) s = if is_blank s then Some (Before k) else begun k (first s)
turned (Name k) s = if is_word (first s) then Some (Name k) else after_operand k s
turned (After k) s = after_operand k s

-- a function may end here
abbrev pub is_end : Spot → Bool
is_end (Before k) = false
is_end (Name k) = k == 0
is_end (After k) = k == 0
