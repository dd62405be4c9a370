-- What the row of an input, a value and the line of a pair show, and which inputs are 0 throughout, worked out by hand.
use Rattle.std.proofs.Common.{◌≡◌, ℕ, Bool, true, false, List, [], ◌∷◌, refl}
use Rattle.std.specs.Fmt.{digits}
use Rattle.std.specs.Prelude.{codes}
use Rattle.net_model.specs.declared.netlist.Design.{Design}
use Rattle.wave_signals.specs.declared.bits.BitKind.TheVariants.{Wire}
use Rattle.wave_signals.specs.declared.signals.Signal.{Signal}
use Rattle.wave_signals.specs.declared.signals.Span.TheVariants.{Down}
use Rattle.wave_signals.specs.Numbered.{numbered}
use Rattle.firm_runs.specs.declared.free_bits.FreeBits.{FreeBits}
use Rattle.shown_runs.specs.DontCares.{loose_bits}
use Rattle.shown_runs.specs.Lines.{pair_text, set_text}
use Rattle.shown_runs.specs.Rows.{input_digit, input_digits, input_row, zero_name, zeros_among}
use Rattle.shown_runs.specs.Values.{value_text, hexed}
use Rattle.shown_runs.specs.declared.headings.Heading.{Heading}
use Rattle.shown_runs.specs.declared.headings.Told.TheVariants.{Refuted, Undecided}
use Rattle.shown_runs.specs.declared.headings.Told.{Told}

-- of three inputs the second and the third are free, the third is fixed, and the first two are reset in cycle 0
abbrev pub three_inputs : Design
three_inputs = record {
  nets = 3;
  gates = [];
  regs = [];
  inputs = 0 ∷ 1 ∷ 2 ∷ [];
  outputs = [];
  fixed = record { input = 2; value = true } ∷ [];
  resets = record { input = 0; value = true } ∷ record { input = 1; value = true } ∷ [];
  reset_len = 1;
}

abbrev pub last_two_free : FreeBits
last_two_free = record { first = 1; count = 2; sinks_from = 0 }

-- the second one alone is neither fixed nor in reset, in cycle 1
loose_are : loose_bits three_inputs last_two_free 2 ≡ (false ∷ false ∷ false ∷ []) ∷ (false ∷ true ∷ false ∷ []) ∷ []
loose_are = refl

-- the second of two inputs is a don't-care in cycle 1
abbrev pub second_in_1 : List (List Bool)
second_in_1 = (false ∷ false ∷ []) ∷ (false ∷ true ∷ []) ∷ []

marked_bit_is_x : input_digit second_in_1 1 1 (true ∷ true ∷ []) ≡ codes "x"
marked_bit_is_x = refl

bit_of_another_cycle_is_a_digit : input_digit second_in_1 0 1 (true ∷ true ∷ []) ≡ codes "1"
bit_of_another_cycle_is_a_digit = refl

bit_of_another_input_is_a_digit : input_digit second_in_1 1 0 (true ∷ false ∷ []) ≡ codes "0"
bit_of_another_input_is_a_digit = refl

without_marks_a_bit_is_a_digit : input_digit [] 1 1 (true ∷ true ∷ []) ≡ codes "1"
without_marks_a_bit_is_a_digit = refl

-- a bus of the two inputs
abbrev pub bus : Signal
bus = record {
  kind = Wire;
  stem = record { scopes = []; front = codes "w"; back = [] };
  span = Down 1;
  values = (true ∷ true ∷ []) ∷ (false ∷ false ∷ []) ∷ [];
}

bits_of_a_bus : input_digits second_in_1 0 bus 1 ≡ codes "1x"
unfolding numbered
bits_of_a_bus = refl

-- four bits are shown each, and more by hexadecimal digits, of which the first may have fewer than four bits
four_bits_are_shown_each : value_text (codes "1011") ≡ codes "1011"
unfolding value_text
four_bits_are_shown_each = refl

five_bits_are_two_digits : value_text (codes "11011") ≡ codes "0x1b"
unfolding value_text hexed
five_bits_are_two_digits = refl

eight_bits_are_two_digits : value_text (codes "10000011") ≡ codes "0x83"
unfolding value_text hexed
eight_bits_are_two_digits = refl

digits_that_are_0_stay : value_text (codes "000001111") ≡ codes "0x00f"
unfolding value_text hexed
digits_that_are_0_stay = refl

with_an_x_bits_are_shown_each : value_text (codes "1000001x") ≡ codes "0b1000001x"
unfolding value_text
with_an_x_bits_are_shown_each = refl

-- a bus of five bits, by their values
abbrev pub five : List (List Bool) → Signal
five values = record {
  kind = Wire;
  stem = record { scopes = []; front = codes "w"; back = [] };
  span = Down 4;
  values = values;
}

-- all of them 0 in two cycles, or the last one 1 in the second
abbrev pub all_0 : List (List Bool)
all_0 = (false ∷ false ∷ []) ∷ (false ∷ false ∷ []) ∷ (false ∷ false ∷ []) ∷ (false ∷ false ∷ []) ∷ (false ∷ false ∷ []) ∷ []

abbrev pub last_1 : List (List Bool)
last_1 = (false ∷ false ∷ []) ∷ (false ∷ false ∷ []) ∷ (false ∷ false ∷ []) ∷ (false ∷ false ∷ []) ∷ (false ∷ true ∷ []) ∷ []

what_is_0_throughout_has_no_row : input_row [] 2 0 (five all_0) ≡ []
unfolding numbered
what_is_0_throughout_has_no_row = refl

it_is_named : zero_name [] 2 0 (five all_0) ≡ codes "w[4:0]" ∷ []
unfolding numbered digits
it_is_named = refl

what_is_1_once_has_a_row : input_row [] 2 0 (five last_1) ≡ record { label = codes "w[4:0]"; cells = codes "0x00" ∷ codes "0x01" ∷ [] } ∷ []
unfolding numbered digits value_text hexed
what_is_1_once_has_a_row = refl

it_is_not_named : zero_name [] 2 0 (five last_1) ≡ []
unfolding numbered
it_is_not_named = refl

-- a don't-care is not 0
what_is_x_once_has_a_row : input_row second_in_1 2 0 (five all_0) ≡ record { label = codes "w[4:0]"; cells = codes "0x00" ∷ codes "0b0x000" ∷ [] } ∷ []
unfolding numbered digits value_text hexed
what_is_x_once_has_a_row = refl

those_that_are_0_stand_in_one_line : zeros_among (codes "a" ∷ codes "b[1:0]" ∷ []) ≡ codes "0 throughout: a b[1:0]" ∷ []
those_that_are_0_stand_in_one_line = refl

where_none_is_no_line_stands : zeros_among [] ≡ []
where_none_is_no_line_stands = refl

registers_have_hexadecimal_digits_too : set_text (five ((true ∷ []) ∷ (false ∷ []) ∷ (false ∷ []) ∷ (true ∷ []) ∷ (true ∷ []) ∷ []))
    ≡ codes "register w[4:0]=0x13 in cycle 0"
unfolding set_text value_text hexed digits
registers_have_hexadecimal_digits_too = refl

-- a pair that is told so
abbrev pub told : Told → List ℕ → Heading
told verdict why = record {
  number = 2;
  command = 1;
  line = 4;
  kind = codes "false";
  start = codes "a";
  end = codes "b";
  told = verdict;
  why = why;
}

undecided_is_told : pair_text (told Undecided (codes "free 0")) ≡ codes "pair 2 command 1 line 4 false a -> b undecided free 0"
unfolding pair_text digits
undecided_is_told = refl

refuted_is_told : pair_text (told Refuted (codes "offset 0")) ≡ codes "pair 2 command 1 line 4 false a -> b refuted offset 0"
unfolding pair_text digits
refuted_is_told = refl
