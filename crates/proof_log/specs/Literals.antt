-- Literals, seen as numbers: 2 * variable, plus 1 for a complement.
use Rattle.std.specs.Prelude.{ℕ, ◌+◌, ◌-◌, ◌*◌, ◌/◌, ◌%◌, ◌<◌, ◌≤◌, ◌==◌, Bool, not, if◌then◌else◌}

-- the literal of a variable, positive or not
abbrev pub literal : ℕ → Bool → ℕ
literal var positive = if positive then 2 * var else 2 * var + 1

abbrev pub lit_var : ℕ → ℕ
lit_var l = l / 2

abbrev pub lit_positive : ℕ → Bool
lit_positive l = l % 2 == 0

-- the complement
abbrev pub negated : ℕ → ℕ
negated l = if l % 2 == 0 then l + 1 else l - 1

-- the literal is of a variable from 1 to vars
abbrev pub InVars : ℕ → ℕ → Type 0
InVars vars l = (2 ≤ l) × (l < 2 * vars + 2)

-- whether the literal is true where the variables have the values v
unfoldable pub lit_true : (ℕ → Bool) → ℕ → Bool
lit_true v l = if lit_positive l then v (lit_var l) else not (v (lit_var l))
