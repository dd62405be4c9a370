-- Which patterns a list of a script has (Tcl lists).
use Rattle.std.proofs.Common.{◌≡◌, ℕ, false, List, [], ◌∷◌, Some, None, refl}
use Rattle.std.specs.Prelude.{Option, codes}
use Rattle.script_types.specs.declared.objects.Class.TheVariants.{Pins}
use Rattle.script_types.specs.declared.objects.Object.{Object}
use Rattle.sdc_values.specs.Lists.{list_of, named, items_from, item_at, element_at, element_from, byte_of, after_byte}

-- the list that a text is, as the values below compute it
reads : List ℕ → Option (List Object)
unfolding list_of items_from item_at element_at element_from byte_of after_byte
reads text = list_of Pins false text

-- the query of a pattern for pins
abbrev pin : List ℕ → Object
pin pattern = named Pins false pattern

-- a b
white_space_parts_patterns : list_of Pins false (codes " a\tb\n") ≡ Some (pin (codes "a") ∷ pin (codes "b") ∷ [])
unfolding reads
white_space_parts_patterns = refl

-- {a b} c
braces_part_patterns_too : list_of Pins false (codes "{a b} c") ≡ Some (pin (codes "a") ∷ pin (codes "b") ∷ pin (codes "c") ∷ [])
unfolding reads
braces_part_patterns_too = refl

-- a backslash gives the byte after it
backslash_gives_the_byte_after_it : list_of Pins false (codes "{a\\ b}") ≡ Some (pin (codes "a b") ∷ [])
unfolding reads
backslash_gives_the_byte_after_it = refl

-- the index of a bus is part of the name
index_is_part_of_a_pattern : list_of Pins false (codes "d[3]") ≡ Some (pin (codes "d[3]") ∷ [])
unfolding reads
index_is_part_of_a_pattern = refl

-- an empty list has none
empty_list_has_no_pattern : list_of Pins false (codes "{ }") ≡ Some []
unfolding reads
empty_list_has_no_pattern = refl

-- a brace that is not closed
list_that_is_not_closed_is_none : list_of Pins false (codes "{a b") ≡ None
unfolding reads
list_that_is_not_closed_is_none = refl

-- directly after a closing brace no pattern may begin
pattern_directly_after_a_brace_is_none : list_of Pins false (codes "{a}b") ≡ None
unfolding reads
pattern_directly_after_a_brace_is_none = refl
