-- Commands of wide scripts, worked out by hand.
use Rattle.std.proofs.Common.{◌≡◌, ℕ, true, false, List, [], ◌∷◌, refl, Some, None, Ok, Err}
use Rattle.std.specs.Prelude.{codes}
use Rattle.sdcv_base.specs.Steps.{after_all}
use Rattle.run_options.specs.declared.forms.ScriptForm.TheVariants.{Narrow, Wide}
use Rattle.sdc_words.specs.declared.words.Piece.TheVariants.{Bytes, Variable}
use Rattle.sdc_words.specs.declared.words.Word.{Word}
use Rattle.sdc_words.specs.declared.words.Word.TheVariants.{Text, Opens, Closes}
use Rattle.script_types.specs.declared.faults.SdcFault.TheVariants.{BadNumber, BadOption, UnknownVariable}
use Rattle.script_types.specs.declared.objects.Class.TheVariants.{Ports, Pins, Clocks}
use Rattle.script_types.specs.declared.objects.Object.TheVariants.{AllInputs}
use Rattle.script_types.specs.declared.scripts.What.TheVariants as what
use Rattle.sdc_values.specs.declared.values.Said.{Said}
use Rattle.sdc_values.specs.declared.values.Value.TheVariants as value
use Rattle.sdc_values.specs.Collections.{after_bracket, collection_from, first_of_two, plain_objects, word_at}
use Rattle.sdc_values.specs.Gets.{after_no_clocks, all_at, inputs_at}
use Rattle.sdc_values.specs.Lists.{after_byte, byte_of, element_at, element_from, item_at, items_from, list_at, list_of, named, objects_of}
use Rattle.sdc_values.specs.Nested.{begins, enters, lists_from, name_at, nested_at, objects_at}
use Rattle.sdc_values.specs.NestedKinds.{narrow_kind as nested_narrow, nested_kind}
use Rattle.sdc_values.specs.Texts.{adds_piece, value_by, variable_of}
use Rattle.sdc_text.specs.declared.heads.Head.{Head}
use Rattle.sdc_text.specs.declared.delays.Role.TheVariants as role
use Rattle.sdc_text.specs.declared.kinds.CommandKind.TheVariants as kind
use Rattle.sdc_text.specs.declared.options.ClockCommand.TheVariants as clock
use Rattle.sdc_text.specs.declared.options.PathCommand.TheVariants.{FalsePath, Multicycle}
use Rattle.sdc_text.specs.Clocks as clocks
use Rattle.sdc_text.specs.Delays.{adds_fitted, adds_word, begun, bracket_step, concluded, delay_from, delay_of, delay_step, fitted, listed, unread, with_plain, with_text, with_word}
use Rattle.sdc_text.specs.Exceptions as path
use Rattle.sdc_text.specs.Kinds.{command_kind, is_clock, is_delay, is_limit, is_setting, is_unjudged, narrow_kind, wide_kind}
use Rattle.sdc_text.specs.Numbers.{multiplier}
use Rattle.sdc_text.specs.Options.{clock_option, common_option, delay_option, generated_option, left_out_option, multicycle_option, path_option, wide_option}
use Rattle.sdc_text.specs.Places.{instance_of, scope_of, separator_of}

-- a command of a name of the list has no other reading
skipped_name_has_no_reading : command_kind (Wide (codes "set_sense" ∷ [])) (codes "set_sense") ≡ Some kind.Unjudged
unfolding command_kind wide_kind is_unjudged narrow_kind is_delay is_clock is_limit is_setting
skipped_name_has_no_reading = refl

other_name_is_unknown : command_kind (Wide (codes "set_sense" ∷ [])) (codes "set_dont_use") ≡ None
unfolding command_kind wide_kind is_unjudged narrow_kind is_delay is_clock is_limit is_setting
other_name_is_unknown = refl

-- a reading comes before the list
name_with_a_reading_is_not_skipped : command_kind (Wide (codes "set_false_path" ∷ [])) (codes "set_false_path") ≡ Some (kind.Path FalsePath)
unfolding command_kind wide_kind is_unjudged narrow_kind
name_with_a_reading_is_not_skipped = refl

-- clock groups are told in a wide script, and passed over in a narrow one
clock_groups_are_unjudged : command_kind (Wide []) (codes "set_clock_groups") ≡ Some kind.Unjudged
unfolding command_kind wide_kind is_unjudged
clock_groups_are_unjudged = refl

clock_groups_are_passed_over : command_kind Narrow (codes "set_clock_groups") ≡ Some kind.Passed
unfolding command_kind narrow_kind is_delay is_clock
clock_groups_are_passed_over = refl

instance_is_unknown_in_a_narrow_script : command_kind Narrow (codes "current_instance") ≡ None
unfolding command_kind narrow_kind is_delay is_clock is_limit is_setting
instance_is_unknown_in_a_narrow_script = refl

-- a word that is written out, at the place 9
abbrev word : List ℕ → Word
word bytes = Text 9 (Bytes bytes ∷ [])

-- `[expr $t] -clock ck [remove_from_collection [all_inputs] c]`: the value is not looked up
delay_with_a_value_that_is_not_looked_up : delay_of false [] 1 (
    Opens 1 ∷ word (codes "expr") ∷ Text 2 (Variable (codes "t") ∷ []) ∷ Closes
    ∷ word (codes "-clock") ∷ word (codes "ck")
    ∷ Opens 3 ∷ word (codes "remove_from_collection") ∷ Opens 4 ∷ word (codes "all_inputs") ∷ Closes ∷ word (codes "c") ∷ Closes
    ∷ [])
    ≡ Ok (what.Delay false (Some (named Clocks false (codes "ck") ∷ [])) (AllInputs ∷ []))
unfolding delay_from delay_step bracket_step with_text adds_word with_word with_plain begun delay_option listed adds_fitted fitted concluded after_bracket collection_from first_of_two word_at plain_objects objects_of nested_at enters name_at nested_kind nested_narrow begins objects_at inputs_at after_no_clocks all_at lists_from value_by after_all adds_piece list_at list_of items_from item_at element_at element_from byte_of after_byte
delay_with_a_value_that_is_not_looked_up = refl

-- `1 d` is a delay of no clock
delay_of_no_clock : delay_of true [] 1 (word (codes "1") ∷ word (codes "d") ∷ []) ≡ Ok (what.Delay true None (named Ports false (codes "d") ∷ []))
unfolding delay_from delay_step with_text adds_word with_word with_plain listed adds_fitted fitted concluded objects_of value_by after_all adds_piece list_at list_of items_from item_at element_at element_from byte_of after_byte
delay_of_no_clock = refl

-- `1 $d`: the ports are looked up
ports_are_looked_up : delay_of true [] 1 (word (codes "1") ∷ Text 2 (Variable (codes "d") ∷ []) ∷ []) ≡ Err (UnknownVariable 1 (codes "d"))
unfolding delay_from delay_step with_text adds_word with_word with_plain value_by variable_of after_all adds_piece
ports_are_looked_up = refl

-- `-reference_pin` is no option of a delay that is read
reference_pin_is_not_read : delay_of true [] 1 (word (codes "-reference_pin") ∷ []) ≡ Err unread
unfolding delay_from delay_step with_text adds_word with_word delay_option value_by after_all adds_piece
reference_pin_is_not_read = refl

-- a pin is no port of a delay
pin_is_no_port : listed role.Ports (record { offset = 0; value = value.Objects (named Pins false (codes "h/Y") ∷ []) }) ≡ Err unread
unfolding listed objects_of after_all adds_fitted fitted
pin_is_no_port = refl

abbrev text : List ℕ → Said
text bytes = record { offset = 0; value = value.Text bytes }

abbrev head : List ℕ → Head
head name = record { line = 1; name = name }

-- a design is named by one text alone
scope_is_told : scope_of (text (codes "top") ∷ []) ≡ what.Scope (codes "top")
scope_is_told = refl

two_words_name_no_design : scope_of (text (codes "a") ∷ text (codes "b") ∷ []) ≡ what.Passed
two_words_name_no_design = refl

instance_by_name_is_refused : instance_of (head (codes "current_instance")) (text (codes "u1") ∷ []) ≡ Err (BadOption 1 (codes "u1"))
instance_by_name_is_refused = refl

other_separator_is_refused : separator_of (head (codes "set_hierarchy_separator")) (text (codes ".") ∷ []) ≡ Err (BadOption 1 (codes "."))
unfolding separator_of
other_separator_is_refused = refl

-- a whole number that is no multiplier sets the command aside in a wide script, and is refused in a narrow one
seventeen_cycles_are_set_aside : path.exception_of true Multicycle (head (codes "set_multicycle_path")) (text (codes "17") ∷ []) ≡ Ok (what.Aside (codes "17"))
unfolding after_all path.adds_word path.with_word path.with_number path.concluded path.claimed path.beyond path.whole_beyond multiplier
seventeen_cycles_are_set_aside = refl

seventeen_cycles_are_refused : path.exception_of false Multicycle (head (codes "set_multicycle_path")) (text (codes "17") ∷ []) ≡ Err (BadNumber 1 (codes "17"))
unfolding after_all path.adds_word path.with_word path.with_number path.concluded path.claimed path.beyond path.kind_of multiplier
seventeen_cycles_are_refused = refl

-- an option comes before the number
option_sets_aside_before_the_number :
    path.exception_of true Multicycle (head (codes "set_multicycle_path")) (text (codes "17") ∷ text (codes "-rise") ∷ []) ≡ Ok (what.Aside (codes "-rise"))
unfolding after_all path.adds_word path.with_word path.with_number path.begun path_option wide_option multicycle_option common_option left_out_option path.concluded
option_sets_aside_before_the_number = refl

-- a part of a cycle is no number
half_a_cycle_is_refused : path.exception_of true Multicycle (head (codes "set_multicycle_path")) (text (codes "2.5") ∷ []) ≡ Err (BadNumber 1 (codes "2.5"))
unfolding after_all path.adds_word path.with_word path.with_number path.concluded path.claimed path.beyond path.whole_beyond path.kind_of multiplier
half_a_cycle_is_refused = refl

-- the number stands once
number_stands_once : path.exception_of true Multicycle (head (codes "set_multicycle_path")) (text (codes "3") ∷ text (codes "-path_multiplier") ∷ [])
    ≡ Err (BadOption 1 (codes "-path_multiplier"))
unfolding after_all path.adds_word path.with_word path.with_number path.begun path_option wide_option
number_stands_once = refl

-- a generated clock has a name and objects
generated_clock : clocks.clock_of clock.Generate (head (codes "create_generated_clock")) (
    text (codes "-name") ∷ text (codes "g") ∷ text (codes "-divide_by") ∷ text (codes "2")
    ∷ record { offset = 0; value = value.Objects (named Pins false (codes "a/Q") ∷ []) } ∷ [])
    ≡ Ok (what.Generated (codes "g") (named Pins false (codes "a/Q") ∷ []))
unfolding after_all clocks.adds_word clocks.with_word clock_option generated_option clocks.begun clocks.given clocks.with_source objects_of clocks.concluded clocks.made clocks.generated
generated_clock = refl

generated_clock_without_objects : clocks.clock_of clock.Generate (head (codes "create_generated_clock")) (text (codes "-name") ∷ text (codes "g") ∷ [])
    ≡ Err (BadOption 1 (codes "create_generated_clock"))
unfolding after_all clocks.adds_word clocks.with_word clock_option generated_option clocks.begun clocks.given clocks.concluded clocks.made clocks.generated
generated_clock_without_objects = refl
