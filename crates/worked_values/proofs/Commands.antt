-- What the numbers and names of a script's commands stand for (SDC 2.1).
use Rattle.std.proofs.Common.{◌≡◌, true, false, [], Some, None, refl}
use Rattle.std.specs.Prelude.{codes}
use Rattle.sdc_text.specs.Numbers.{is_whole, multiplier}
use Rattle.sdc_text.specs.Cases.{case_bit}
use Rattle.sdc_text.specs.Kinds.{narrow_kind, is_passed_over, is_delay, is_clock, is_limit, is_setting}

-- a multiplier may have zeros in front
multiplier_may_have_zeros_in_front : multiplier (codes "002") ≡ Some 2
unfolding multiplier
multiplier_may_have_zeros_in_front = refl

-- the greatest multiplier
multiplier_of_16_is_taken : multiplier (codes "16") ≡ Some 16
unfolding multiplier
multiplier_of_16_is_taken = refl

-- the first number above it
text_of_17_is_no_multiplier : multiplier (codes "17") ≡ None
unfolding multiplier
text_of_17_is_no_multiplier = refl

-- no path takes 0 cycles
text_of_0_is_no_multiplier : multiplier (codes "0") ≡ None
unfolding multiplier
text_of_0_is_no_multiplier = refl

-- a sign is no digit
negative_multiplier_is_refused : multiplier (codes "-2") ≡ None
unfolding multiplier
negative_multiplier_is_refused = refl

-- nor is a point
multiplier_with_a_point_is_refused : multiplier (codes "2.0") ≡ None
unfolding multiplier
multiplier_with_a_point_is_refused = refl

-- a number has a digit at least
empty_multiplier_is_refused : multiplier [] ≡ None
unfolding multiplier
empty_multiplier_is_refused = refl

-- a negative number is a number, and no option
negative_number_is_whole : is_whole (codes "-3") ≡ true
negative_number_is_whole = refl

-- after a sign a digit has to come
dash_alone_is_no_number : is_whole (codes "-") ≡ false
dash_alone_is_no_number = refl

-- the bits of a case analysis
zero_is_a_case_of_0 : case_bit (codes "zero") ≡ Some false
unfolding case_bit
zero_is_a_case_of_0 = refl

-- 1 by its name
one_is_a_case_of_1 : case_bit (codes "one") ≡ Some true
unfolding case_bit
one_is_a_case_of_1 = refl

-- 1 by its digit
digit_1_is_a_case_of_1 : case_bit (codes "1") ≡ Some true
unfolding case_bit
digit_1_is_a_case_of_1 = refl

-- an edge is no bit
rising_is_no_case : case_bit (codes "rising") ≡ None
unfolding case_bit
rising_is_no_case = refl

-- delays are passed over, and exceptions are not
input_delay_is_passed_over : is_passed_over (codes "set_input_delay") ≡ true
unfolding is_delay
input_delay_is_passed_over = refl

-- a limit of a delay is no exception of this tool
max_delay_is_passed_over : is_passed_over (codes "set_max_delay") ≡ true
unfolding is_delay is_clock is_limit
max_delay_is_passed_over = refl

-- a false path is a claim
false_path_is_not_passed_over : is_passed_over (codes "set_false_path") ≡ false
unfolding is_delay is_clock is_limit is_setting
false_path_is_not_passed_over = refl

-- a multicycle path is a claim
multicycle_path_is_not_passed_over : is_passed_over (codes "set_multicycle_path") ≡ false
unfolding is_delay is_clock is_limit is_setting
multicycle_path_is_not_passed_over = refl

-- a generated clock is left out by name, and so is refused
generated_clock_is_not_passed_over : is_passed_over (codes "create_generated_clock") ≡ false
unfolding is_delay is_clock is_limit is_setting
generated_clock_is_not_passed_over = refl

-- a command that SDC does not have
unknown_command_is_none : narrow_kind (codes "set_fals_path") ≡ None
unfolding narrow_kind is_delay is_clock is_limit is_setting
unknown_command_is_none = refl
