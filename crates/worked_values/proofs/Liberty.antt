-- What the functions of a Liberty file stand for.
use Rattle.std.proofs.Common.{◌≡◌, ℕ, List, Some, None, refl}
use Rattle.std.specs.Prelude.{Option, codes}
use Rattle.texts.specs.Rules.{most_nested}
use Rattle.lib_words.specs.Blanks.{after_space}
use Rattle.lib_func.specs.Trees.{Tree, ZeroTree, OneTree, NameTree, NotTree, AndTree, OrTree, XorTree}
use Rattle.lib_func.specs.Marks.{marks}
use Rattle.lib_func.specs.Operators.{after_operator}
use Rattle.lib_func.specs.Functions.{low_function, function_in, within, chain_of, chain_from, inverted_in, atom_in, leaf_at, closed}

-- the name A
abbrev a : Tree
a = NameTree (codes "A")

-- the name B
abbrev b : Tree
b = NameTree (codes "B")

-- the name C
abbrev c : Tree
c = NameTree (codes "C")

-- the function that a text is, as the values below compute it
reads : List ℕ → Option Tree
unfolding low_function function_in within chain_of chain_from inverted_in atom_in leaf_at closed after_space marks after_operator most_nested
reads s = low_function s

-- A ^ B
pub caret_is_exclusive_or : low_function (codes "A^B") ≡ Some (XorTree a b)
unfolding reads
caret_is_exclusive_or = refl

-- A + B
plus_is_or : low_function (codes "A+B") ≡ Some (OrTree a b)
unfolding reads
plus_is_or = refl

-- A | B
bar_is_or : low_function (codes "A|B") ≡ Some (OrTree a b)
unfolding reads
bar_is_or = refl

-- A * B
star_is_and : low_function (codes "A*B") ≡ Some (AndTree a b)
unfolding reads
star_is_and = refl

-- A & B
ampersand_is_and : low_function (codes "A&B") ≡ Some (AndTree a b)
unfolding reads
ampersand_is_and = refl

-- A B
space_between_names_is_and : low_function (codes "A B") ≡ Some (AndTree a b)
unfolding reads
space_between_names_is_and = refl

-- 1
one_is_one : low_function (codes "1") ≡ Some OneTree
unfolding reads
one_is_one = refl

-- 0
zero_is_zero : low_function (codes "0") ≡ Some ZeroTree
unfolding reads
zero_is_zero = refl

-- !A
mark_before_a_name_inverts_it : low_function (codes "!A") ≡ Some (NotTree a)
unfolding reads
mark_before_a_name_inverts_it = refl

-- A'
quote_after_a_name_inverts_it : low_function (codes "A'") ≡ Some (NotTree a)
unfolding reads
quote_after_a_name_inverts_it = refl

-- !A': both
mark_and_quote_invert_twice : low_function (codes "!A'") ≡ Some (NotTree (NotTree a))
unfolding reads
mark_and_quote_invert_twice = refl

-- and binds tighter than or
and_binds_tighter_than_or : low_function (codes "A+B*C") ≡ Some (OrTree a (AndTree b c))
unfolding reads
and_binds_tighter_than_or = refl

-- exclusive or binds tighter than and (Liberty, `function`)
exclusive_or_binds_tighter_than_and : low_function (codes "A*B^C") ≡ Some (AndTree a (XorTree b c))
unfolding reads
exclusive_or_binds_tighter_than_and = refl

-- an inversion binds tightest
inversion_binds_tightest : low_function (codes "!A^B") ≡ Some (XorTree (NotTree a) b)
unfolding reads
inversion_binds_tightest = refl

-- parentheses, with white space
parentheses_hold_an_or : low_function (codes "( A | B ) & C") ≡ Some (AndTree (OrTree a b) c)
unfolding reads
parentheses_hold_an_or = refl

-- (A + B)'
quote_after_parentheses_inverts_all_in_them : low_function (codes "(A+B)'") ≡ Some (NotTree (OrTree a b))
unfolding reads
quote_after_parentheses_inverts_all_in_them = refl

-- what stands after a function makes it none
text_after_a_function_is_refused : low_function (codes "A)") ≡ None
unfolding reads
text_after_a_function_is_refused = refl

-- so does an operator without an operand
operator_without_an_operand_is_refused : low_function (codes "A+") ≡ None
unfolding reads
operator_without_an_operand_is_refused = refl

-- (A
parenthesis_that_is_not_closed_is_refused : low_function (codes "(A") ≡ None
unfolding reads
parenthesis_that_is_not_closed_is_refused = refl

-- no text, no function
empty_function_is_refused : low_function (codes "") ≡ None
unfolding reads
empty_function_is_refused = refl
