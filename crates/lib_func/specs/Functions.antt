-- The grammar of a function (Liberty, `function`): or, and, exclusive or, inversion, atom.
use Rattle.std.specs.Prelude.{ℕ, zero, suc, ◌+◌, ◌==◌, nat_le, Bool, ◌&&◌, if◌then◌else◌, List, length, take, drop, Option, Some, None, is_some, is_none}
use Rattle.std.specs.List.{prefix_len}
use Rattle.texts.specs.Bytes.{is_letter, is_word}
use Rattle.texts.specs.Reads.{Read, ◌>>=◌}
use Rattle.texts.specs.Rules.{most_nested}
use Rattle.lib_func.specs.declared.operators.Level.{Level}
use Rattle.lib_func.specs.declared.operators.Level.TheVariants.{Or, And, Xor}
use Rattle.lib_func.specs.Trees.{Tree, ZeroTree, OneTree, NameTree, negated, height}
use Rattle.texts.specs.Fronts.{first}
use Rattle.lib_words.specs.Blanks.{after_space}
use Rattle.lib_func.specs.Marks.{marks}
use Rattle.lib_func.specs.Operators.{after_operator, join}

-- the rest of a chain of operands, of fewer than n, after those found; an operand has a byte at least
unfoldable pub chain_from : (List ℕ → Read Tree) → Level → ℕ → Tree → List ℕ → Read Tree
chain_from operand level zero found s = None
chain_from operand level (suc n) found s = elim (after_operator level s) [
  | None ↦ Some (found, s)
  | Some t ↦ operand t >>= λ p. chain_from operand level n (join level found p.0) p.1
]

-- an operand, and further ones each after an operator of the level
unfoldable pub chain_of : (List ℕ → Read Tree) → Level → List ℕ → Read Tree
chain_of operand level s = operand s >>= λ p. chain_from operand level (length s) p.0 p.1

-- `0`, `1` or a name
unfoldable pub leaf_at : List ℕ → Read Tree
leaf_at s =
    if first s == 48 then Some (ZeroTree, drop 1 s)
    else if first s == 49 then Some (OneTree, drop 1 s)
    else if is_letter (first s) then Some (NameTree (take (prefix_len is_word s) s), drop (prefix_len is_word s) s)
    else None

-- the closing parenthesis
unfoldable pub closed : Tree × List ℕ → Read Tree
closed p = if first (after_space p.1) == 41 then Some (p.0, drop 1 (after_space p.1)) else None

-- what may stand in parentheses is given
module _ (inner : List ℕ → Read Tree) where
  -- a constant, a name, or what stands in parentheses
  unfoldable pub atom_in : List ℕ → Read Tree
  atom_in s = let t = after_space s in if first t == 40 then inner (drop 1 t) >>= closed else leaf_at t

  -- any number of `!` before an atom, and of `'` after it
  unfoldable pub inverted_in : List ℕ → Read Tree
  inverted_in s =
      let before = marks 33 0 (length s) s in
      atom_in before.1 >>= λ p. let after = marks 39 0 (length p.1) p.1 in Some (negated before.0 (negated after.0 p.0), after.1)

  abbrev pub xor_in : List ℕ → Read Tree
  xor_in s = chain_of inverted_in Xor s

  abbrev pub and_in : List ℕ → Read Tree
  and_in s = chain_of xor_in And s

  abbrev pub or_in : List ℕ → Read Tree
  or_in s = chain_of and_in Or s

-- what may stand in parentheses that nest at most so deep
unfoldable pub within : ℕ → List ℕ → Read Tree
within zero s = None
within (suc depth) s = or_in (within depth) s

-- an operand of a chain of this level
abbrev pub operand_at : ℕ → Level → List ℕ → Read Tree
operand_at depth Or s = and_in (within depth) s
operand_at depth And s = xor_in (within depth) s
operand_at depth Xor s = inverted_in (within depth) s

abbrev pub chain_at : ℕ → Level → List ℕ → Read Tree
chain_at depth level s = chain_of (operand_at depth level) level s

-- the function that a whole text is, with parentheses that nest at most so deep
unfoldable pub function_in : ℕ → List ℕ → Option Tree
function_in depth s = chain_at depth Or s >>= λ p. if length (after_space p.1) == 0 then Some p.0 else None

-- the function that a whole text is: no text has more parentheses than bytes
abbrev pub function_of : List ℕ → Option Tree
function_of s = function_in (length s + most_nested) s

-- the function that a whole text is, where neither its parentheses nest too deep nor its tree is too high
unfoldable pub low_function : List ℕ → Option Tree
low_function s = function_in most_nested s >>= λ f. if nat_le (height f) most_nested then Some f else None

-- a function that is too deep or too high
abbrev pub is_deep : List ℕ → Bool
is_deep s = is_some (function_of s) && is_none (low_function s)
