-- Nested commands of wide scripts, worked out by hand.
use Rattle.std.proofs.Common.{◌≡◌, ℕ, false, List, [], ◌∷◌, refl, Some, None, Ok, Err}
use Rattle.std.specs.Prelude.{codes}
use Rattle.sdcv_base.specs.Steps.{after_all}
use Rattle.sdc_words.specs.declared.words.Piece.TheVariants.{Bytes}
use Rattle.sdc_words.specs.declared.words.Word.{Word}
use Rattle.sdc_words.specs.declared.words.Word.TheVariants.{Text, Opens, Closes}
use Rattle.script_types.specs.declared.faults.SdcFault.TheVariants.{BadOption, Syntax}
use Rattle.script_types.specs.declared.objects.Class.TheVariants.{Cells}
use Rattle.script_types.specs.declared.objects.Object.TheVariants.{AllInputs}
use Rattle.sdc_values.specs.declared.nested_kinds.Nesting.TheVariants.{Narrow, Wide}
use Rattle.sdc_values.specs.declared.nested_kinds.NestedKind.TheVariants.{List as JoinsLists}
use Rattle.sdc_values.specs.Collections.{after_bracket, collection_at, collection_from, first_of_two, plain_objects, word_at}
use Rattle.sdc_values.specs.Gets.{adds_by, adds_name, adds_text, adds_value, after_no_clocks, all_at, asked, asks, ends_list, get_at, get_from, inputs_at, opens}
use Rattle.sdc_values.specs.Lists.{after_byte, byte_of, element_at, element_from, item_at, items_from, list_at, list_of, named, objects_of}
use Rattle.sdc_values.specs.Nested.{begins, enters, lists_from, name_at, nested_at, objects_at}
use Rattle.sdc_values.specs.NestedKinds.{narrow_kind, nested_kind}
use Rattle.sdc_values.specs.Texts.{adds_piece, value_by}

-- a word that is written out, at the place 9
abbrev word : List ℕ → Word
word bytes = Text 9 (Bytes bytes ∷ [])

-- `concat` joins lists in a wide script alone
concat_is_wide : nested_kind Wide (codes "concat") ≡ Some JoinsLists
unfolding nested_kind narrow_kind
concat_is_wide = refl

concat_is_not_narrow : nested_kind Narrow (codes "concat") ≡ None
unfolding nested_kind narrow_kind
concat_is_not_narrow = refl

-- the words of `get_cells [list a b]` after its name
abbrev listed : List Word
listed = Opens 8 ∷ word (codes "list") ∷ word (codes "a") ∷ word (codes "b") ∷ Closes ∷ Closes ∷ []

-- they are the patterns of both words
both_words_are_patterns : get_at Wide [] 1 0 (codes "get_cells") Cells listed
    ≡ Ok (named Cells false (codes "a") ∷ named Cells false (codes "b") ∷ [], [])
unfolding get_from asks opens adds_value adds_by adds_name adds_text ends_list asked value_by after_all adds_piece list_at list_of items_from item_at element_at element_from byte_of after_byte
both_words_are_patterns = refl

-- in a narrow script no bracket stands there
no_list_in_a_narrow_get : get_at Narrow [] 1 0 (codes "get_cells") Cells listed ≡ Err (BadOption 1 (codes "get_cells"))
unfolding get_from asks opens
no_list_in_a_narrow_get = refl

-- nor a list of objects in a wide one
no_objects_in_a_get : get_at Wide [] 1 0 (codes "get_cells") Cells (Opens 8 ∷ word (codes "get_cells") ∷ word (codes "a") ∷ Closes ∷ Closes ∷ [])
    ≡ Err (BadOption 1 (codes "get_cells"))
unfolding get_from asks opens adds_value adds_by adds_name value_by after_all adds_piece
no_objects_in_a_get = refl

-- `all_inputs -no_clocks`
all_inputs_without_clocks : inputs_at Wide [] 1 0 (codes "all_inputs") (word (codes "-no_clocks") ∷ Closes ∷ []) ≡ Ok (AllInputs ∷ [], [])
unfolding inputs_at after_no_clocks all_at value_by after_all adds_piece
all_inputs_without_clocks = refl

no_such_option_in_a_narrow_script : inputs_at Narrow [] 1 0 (codes "all_inputs") (word (codes "-no_clocks") ∷ Closes ∷ [])
    ≡ Err (BadOption 1 (codes "-no_clocks"))
unfolding inputs_at all_at value_by after_all adds_piece
no_such_option_in_a_narrow_script = refl

-- a bracket with one within, and what follows
nested_brackets_are_passed : after_bracket 0 (word (codes "expr") ∷ Opens 3 ∷ Closes ∷ Closes ∷ word (codes "d") ∷ []) ≡ word (codes "d") ∷ []
unfolding after_bracket
nested_brackets_are_passed = refl

-- a removal says what others are taken out of
first_list_of_a_removal :
    collection_at [] 1 0 (word (codes "remove_from_collection") ∷ Opens 2 ∷ word (codes "all_inputs") ∷ Closes ∷ word (codes "c") ∷ Closes ∷ [])
    ≡ Ok (AllInputs ∷ [], [])
unfolding collection_from first_of_two word_at plain_objects objects_of nested_at enters name_at nested_kind narrow_kind begins objects_at inputs_at after_no_clocks all_at lists_from value_by after_all adds_piece list_at list_of items_from item_at element_at element_from byte_of after_byte
first_list_of_a_removal = refl

-- so does one of another
first_list_of_two_removals :
    collection_at [] 1 0 (word (codes "remove_from_collection") ∷ Opens 2 ∷ word (codes "remove_from_collection")
    ∷ Opens 3 ∷ word (codes "all_inputs") ∷ Closes ∷ word (codes "c") ∷ Closes ∷ word (codes "r") ∷ Closes ∷ [])
    ≡ Ok (AllInputs ∷ [], [])
unfolding collection_from first_of_two word_at plain_objects objects_of nested_at enters name_at nested_kind narrow_kind begins objects_at inputs_at after_no_clocks all_at lists_from value_by after_all adds_piece list_at list_of items_from item_at element_at element_from byte_of after_byte
first_list_of_two_removals = refl

-- it takes no option
no_option_of_a_removal : collection_at [] 1 0 (word (codes "remove_from_collection") ∷ word (codes "-intersect") ∷ []) ≡ Err (Syntax 9)
unfolding collection_from first_of_two word_at plain_objects value_by after_all adds_piece
no_option_of_a_removal = refl
