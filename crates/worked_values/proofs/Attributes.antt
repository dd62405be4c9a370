-- What the words of a Liberty file stand for: white space, comments, quotes, names and values.
use Rattle.std.proofs.Common.{◌≡◌, refl}
use Rattle.std.specs.Prelude.{codes, Ok}
use Rattle.texts.specs.Fronts.{closed_from}
use Rattle.lib_words.specs.Blanks.{after_space, after_blanks, skipped, blank_len, comment_len}
use Rattle.lib_words.specs.Tokens.{name_at, quoted_at}
use Rattle.lib_words.specs.Values.{value_from, value_len, value_piece, spaced, said}
use Rattle.lib_words.specs.Runs.{run_from, run_len}

-- a comment is passed over with the white space around it
comment_is_passed_over : after_blanks (codes " /* a */\n\tcell") ≡ codes "cell"
unfolding after_blanks skipped blank_len comment_len closed_from
comment_is_passed_over = refl

-- a backslash before a newline is white space
line_break_is_white_space : after_space (codes " \\\n x") ≡ codes "x"
unfolding after_space
line_break_is_white_space = refl

-- one elsewhere is not
backslash_in_a_line_is_no_white_space : after_space (codes " \\x") ≡ codes "\\x"
unfolding after_space
backslash_in_a_line_is_no_white_space = refl

-- a comment that is not closed is not passed over
comment_that_is_not_closed_stays : after_blanks (codes " /* a") ≡ codes "/* a"
unfolding after_blanks skipped blank_len comment_len closed_from
comment_that_is_not_closed_stays = refl

-- a value ends at its semicolon
value_ends_at_its_semicolon : value_len (codes "1.2 ;x") ≡ 4
unfolding value_from value_piece comment_len closed_from
value_ends_at_its_semicolon = refl

-- or at the newline, where the semicolon is missing
value_without_a_semicolon_ends_at_its_newline : value_len (codes "1.2\nx") ≡ 3
unfolding value_from value_piece comment_len closed_from
value_without_a_semicolon_ends_at_its_newline = refl

-- or at the brace of its group
value_ends_at_the_brace_of_its_group : value_len (codes "1.2}") ≡ 3
unfolding value_from value_piece comment_len closed_from
value_ends_at_the_brace_of_its_group = refl

-- a semicolon in a comment ends no value
semicolon_in_a_comment_ends_no_value : value_len (codes "a/*;*/b;") ≡ 7
unfolding value_from value_piece comment_len closed_from
semicolon_in_a_comment_ends_no_value = refl

-- what is said of it has a space in the comment's place, and none at its end
comment_in_a_value_is_a_space : said (codes "a/*;*/b ") ≡ codes "a b"
unfolding spaced comment_len closed_from
comment_in_a_value_is_a_space = refl

-- a quoted text ends at its quote, and keeps its white space
quoted_text_keeps_its_white_space : quoted_at 6 (codes "\" a \";") ≡ Ok (codes " a ", codes ";")
unfolding quoted_at
quoted_text_keeps_its_white_space = refl

-- an argument ends at a comma
argument_ends_at_a_comma : run_len (codes "A1,B") ≡ 2
unfolding run_from
argument_ends_at_a_comma = refl

-- a name goes on with letters, digits and `_` alone
name_ends_at_its_parenthesis : name_at 7 (codes "cell (A") ≡ Ok (codes "cell", codes "(A")
unfolding name_at after_blanks skipped blank_len comment_len closed_from
name_ends_at_its_parenthesis = refl
