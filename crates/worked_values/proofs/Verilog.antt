-- What a netlist's words stand for: comments, constants, names and numbers of Verilog.
use Rattle.std.proofs.Common.{◌≡◌, true, false, [], ◌∷◌, refl}
use Rattle.std.specs.Prelude.{codes, Ok, Err, Some, None}
use Rattle.std.specs.Option.{option_map}
use Rattle.texts.specs.Fronts.{first, closed_from}
use Rattle.netlist_types.specs.declared.gates.PrimKind.TheVariants as gate
use Rattle.verilog_words.specs.declared.faults.SyntaxFault.TheVariants.{Syntax}
use Rattle.verilog_words.specs.declared.words.Word.TheVariants as word
use Rattle.verilog_words.specs.Blanks.{blank_len, after_blanks, begins_directive, skipped}
use Rattle.verilog_words.specs.Constants.{constant_at, size_at, base_at, base_of, digits_at, bits_of, radix}
use Rattle.verilog_words.specs.Marks.{opens_list}
use Rattle.verilog_words.specs.Names.{name_at, escaped_at, identifier_len}
use Rattle.verilog_words.specs.Numbers.{run_value, number_at}
use Rattle.verilog_words.specs.Words.{word_of, module_word, gate_word, is_behaviour, is_strength}

-- /*a*/b: the comment has five bytes
comment_ends_with_star_and_slash : blank_len false (codes "/*a*/b") ≡ 5
unfolding blank_len closed_from
comment_ends_with_star_and_slash = refl

-- a comment that only `*)` could end is not closed, and nothing of it is passed over
comment_is_not_ended_as_an_attribute : blank_len false (codes "/*a*)b") ≡ 0
unfolding blank_len closed_from
comment_is_not_ended_as_an_attribute = refl

-- (* keep *) w
attribute_ends_with_star_and_parenthesis : blank_len false (codes "(* keep *) w") ≡ 10
unfolding blank_len closed_from
attribute_ends_with_star_and_parenthesis = refl

-- (*) is no attribute: it is the list of an event control, which no netlist has
star_alone_in_parentheses_is_no_attribute : blank_len false (codes "(*) b") ≡ 0
unfolding blank_len closed_from begins_directive
star_alone_in_parentheses_is_no_attribute = refl

-- what follows a comment, its own end passed
pub comment_is_passed_over : after_blanks false (codes "/*a*/b") ≡ codes "b"
unfolding after_blanks skipped blank_len closed_from begins_directive
comment_is_passed_over = refl

-- a line comment ends before its newline
line_comment_keeps_the_next_line : after_blanks false (codes "// a\nwire") ≡ codes "wire"
unfolding after_blanks skipped blank_len closed_from begins_directive
line_comment_keeps_the_next_line = refl

-- two comments, a newline and an attribute, in a row
blanks_of_all_kinds_are_passed_over : after_blanks false (codes " /* a * / */ // b\n\t(* c *)d e") ≡ codes "d e"
unfolding after_blanks skipped blank_len closed_from begins_directive
blanks_of_all_kinds_are_passed_over = refl

-- a directive is passed over where a line begins
directive_is_passed_over_at_a_lines_begin : after_blanks true (codes "`timescale 1ns/1ps\nmodule") ≡ codes "module"
unfolding after_blanks skipped blank_len closed_from begins_directive
directive_is_passed_over_at_a_lines_begin = refl

-- and nowhere else
directive_in_a_line_is_not_passed_over : after_blanks false (codes "`celldefine") ≡ codes "`celldefine"
unfolding after_blanks skipped blank_len closed_from begins_directive
directive_in_a_line_is_not_passed_over = refl

-- a macro is no directive of the subset
macro_is_not_passed_over : after_blanks true (codes "`define A 1\n") ≡ codes "`define A 1\n"
unfolding after_blanks skipped blank_len closed_from begins_directive
macro_is_not_passed_over = refl

-- 4'd5 is 0101, the most significant bit first
pub constant_has_the_bits_of_its_value : constant_at 4 (codes "4'd5") ≡ Ok (false ∷ true ∷ false ∷ true ∷ [], [])
unfolding constant_at size_at base_at base_of digits_at bits_of run_value after_blanks skipped
constant_has_the_bits_of_its_value = refl

-- five of the value 5 in four bits
bits_stand_from_the_most_significant_on : bits_of 4 5 ≡ false ∷ true ∷ false ∷ true ∷ []
unfolding bits_of
bits_stand_from_the_most_significant_on = refl

-- a hexadecimal digit counts sixteens
hexadecimal_digits_count_sixteens : option_map radix (base_of (first (codes "h1f"))) ≡ Some 16
unfolding base_of
hexadecimal_digits_count_sixteens = refl

-- 5'h10 is 10000, where octal digits would give 01000
hexadecimal_constant_is_read_by_sixteens : constant_at 5 (codes "5'h10") ≡ Ok (true ∷ false ∷ false ∷ false ∷ false ∷ [], [])
unfolding constant_at size_at base_at base_of digits_at bits_of run_value after_blanks skipped
hexadecimal_constant_is_read_by_sixteens = refl

-- 4'o17 is 1111
octal_constant_is_read_by_eights : constant_at 5 (codes "4'o17") ≡ Ok (true ∷ true ∷ true ∷ true ∷ [], [])
unfolding constant_at size_at base_at base_of digits_at bits_of run_value after_blanks skipped
octal_constant_is_read_by_eights = refl

-- 3'B1_01; the base in either case, and `_` counts for nothing
underscore_in_a_constant_counts_for_nothing : constant_at 7 (codes "3'B1_01") ≡ Ok (true ∷ false ∷ true ∷ [], [])
unfolding constant_at size_at base_at base_of digits_at bits_of run_value after_blanks skipped
underscore_in_a_constant_counts_for_nothing = refl

-- 2'b100 has no room for its value; the fault lies at the digits
constant_wider_than_its_size_is_refused : constant_at 6 (codes "2'b100") ≡ Err (Syntax 3)
unfolding constant_at size_at base_at base_of digits_at run_value
constant_wider_than_its_size_is_refused = refl

-- 4'b2
digit_of_another_base_is_refused : constant_at 4 (codes "4'b2") ≡ Err (Syntax 3)
unfolding constant_at size_at base_at base_of digits_at run_value
digit_of_another_base_is_refused = refl

-- 1'bx
unknown_bit_is_refused : constant_at 4 (codes "1'bx") ≡ Err (Syntax 3)
unfolding constant_at size_at base_at base_of digits_at run_value
unknown_bit_is_refused = refl

-- 4'sd5
signed_constant_is_refused : constant_at 5 (codes "4'sd5") ≡ Err (Syntax 2)
unfolding constant_at size_at base_at base_of digits_at run_value
signed_constant_is_refused = refl

-- 0'b0
size_of_no_bits_is_refused : constant_at 4 (codes "0'b0") ≡ Err (Syntax 0)
unfolding constant_at size_at run_value
size_of_no_bits_is_refused = refl

-- 65'h0
size_above_64_is_refused : constant_at 5 (codes "65'h0") ≡ Err (Syntax 0)
unfolding constant_at size_at run_value
size_above_64_is_refused = refl

-- \a+b c: the name is a+b
escaped_name_has_no_backslash : name_at 6 (codes "\\a+b c") ≡ Ok (codes "a+b", codes "c")
unfolding name_at escaped_at after_blanks skipped blank_len closed_from begins_directive
escaped_name_has_no_backslash = refl

-- \a); at the text's end, where no white space ends it
escaped_name_without_white_space_is_refused : name_at 3 (codes "\\a)") ≡ Err (Syntax 0)
unfolding name_at escaped_at
escaped_name_without_white_space_is_refused = refl

-- a name may have digits, `_` and `$` after its first letter
name_goes_on_with_digits_and_dollars : name_at 6 (codes "_a$1 ,") ≡ Ok (codes "_a$1", codes ",")
unfolding name_at identifier_len word_of module_word gate_word is_behaviour is_strength after_blanks skipped blank_len closed_from begins_directive
name_goes_on_with_digits_and_dollars = refl

-- a word of the language is no name
word_of_the_language_is_no_name : name_at 5 (codes "wire ") ≡ Err (Syntax 0)
unfolding name_at identifier_len word_of module_word
word_of_the_language_is_no_name = refl

-- and escaped it is one
escaped_word_of_the_language_is_a_name : name_at 6 (codes "\\wire ") ≡ Ok (codes "wire", [])
unfolding name_at escaped_at after_blanks skipped blank_len closed_from begins_directive
escaped_word_of_the_language_is_a_name = refl

-- words are told in lower case alone
word_in_capitals_is_none : word_of (codes "Wire") ≡ None
unfolding word_of module_word gate_word is_behaviour is_strength
word_in_capitals_is_none = refl

-- a gate primitive
nand_is_a_gate : word_of (codes "nand") ≡ Some (word.Gate gate.Nand)
unfolding word_of module_word gate_word
nand_is_a_gate = refl

-- what no netlist of the subset has is told as such
behaviour_is_told_as_left_out : word_of (codes "always") ≡ Some word.Unsupported
unfolding word_of module_word gate_word is_behaviour
behaviour_is_told_as_left_out = refl

-- and so are strengths
strength_is_told_as_left_out : word_of (codes "wand") ≡ Some word.Unsupported
unfolding word_of module_word gate_word is_behaviour is_strength
strength_is_told_as_left_out = refl

-- a direction that only a wide netlist has is a word of its own, and no name
inout_is_a_word_of_its_own : word_of (codes "inout") ≡ Some word.Inout
unfolding word_of module_word
inout_is_a_word_of_its_own = refl

-- the greatest number of a range
number_of_65535_is_taken : number_at 6 (codes "65535]") ≡ Ok (65535, codes "]")
unfolding number_at run_value after_blanks skipped blank_len closed_from begins_directive
number_of_65535_is_taken = refl

-- and the first that is above it
number_of_65536_is_refused : number_at 6 (codes "65536]") ≡ Err (Syntax 0)
unfolding number_at run_value
number_of_65536_is_refused = refl

-- a list opens with a parenthesis that begins no attribute
attribute_opens_no_list : opens_list (codes "(* keep") ≡ false
unfolding opens_list
attribute_opens_no_list = refl

-- (a)
parenthesis_opens_a_list : opens_list (codes "(a)") ≡ true
unfolding opens_list
parenthesis_opens_a_list = refl
