-- The operators of a function, from loosest to tightest: or, and, exclusive or.
use Rattle.std.specs.Prelude.{ℕ, Bool, ◌==◌, ◌||◌, if◌then◌else◌, List, drop, Option, Some, None}
use Rattle.texts.specs.Bytes.{is_letter}
use Rattle.lib_func.specs.declared.operators.Level.{Level}
use Rattle.lib_func.specs.declared.operators.Level.TheVariants.{Or, And, Xor}
use Rattle.lib_func.specs.Trees.{Tree, AndTree, OrTree, XorTree}
use Rattle.texts.specs.Fronts.{first}
use Rattle.lib_words.specs.Blanks.{after_space}

-- a letter or `_`, `!`, `(`, `0` or `1`
abbrev pub begins_operand : ℕ → Bool
begins_operand b = is_letter b || (b == 33 || (b == 40 || (b == 48 || b == 49)))

-- `+` or `|`
abbrev pub is_or : ℕ → Bool
is_or b = b == 43 || b == 124

-- `*` or `&`
abbrev pub is_and : ℕ → Bool
is_and b = b == 42 || b == 38

-- what follows the operator, where a further operand comes; two operands side by side are an and
unfoldable pub after_operator : Level → List ℕ → Option (List ℕ)
after_operator Or s = let t = after_space s in if is_or (first t) then Some (drop 1 t) else None
after_operator And s = let t = after_space s in if is_and (first t) then Some (drop 1 t) else if begins_operand (first t) then Some t else None
after_operator Xor s = let t = after_space s in if first t == 94 then Some (drop 1 t) else None

-- two operands with the operator of a level
abbrev pub join : Level → Tree → Tree → Tree
join Or f g = OrTree f g
join And f g = AndTree f g
join Xor f g = XorTree f g
