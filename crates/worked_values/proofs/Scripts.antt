-- What the words of a script stand for: gaps, comments, braces, quotes, variables and brackets (Tcl, as SDC 2.1 uses it).
use Rattle.std.proofs.Common.{◌≡◌, ℕ, List, [], ◌∷◌, Result, Ok, Err, refl}
use Rattle.std.specs.Prelude.{codes}
use Rattle.texts.specs.Rules.{most_nested}
use Rattle.sdc_words.specs.declared.faults.WordFault.{WordFault}
use Rattle.sdc_words.specs.declared.faults.WordFault.TheVariants.{Syntax}
use Rattle.sdc_words.specs.declared.words.Word.{Word}
use Rattle.sdc_words.specs.declared.words.Word.TheVariants as word
use Rattle.sdc_words.specs.declared.words.Piece.TheVariants.{Bytes, Variable}
use Rattle.sdc_words.specs.Blanks.{after_blanks, after_gaps, blank_len, gap_len, skipped, comment_from}
use Rattle.sdc_words.specs.Braces.{may_open, matched_from, after_byte, joined_from}
use Rattle.sdc_words.specs.Pieces.{is_over, escaped_at, name_from, braced_name_at, name_at, index_at, plain_at, piece_at, pieces_from}
use Rattle.sdc_words.specs.Texts.{parted, braced_at, quote_at, quoted_at, bare_at, text_at}
use Rattle.sdc_words.specs.Words.{words_at, words_from, word_at}
use Rattle.sdc_words.specs.Lines.{cleaned, line_of, original_from, original}

-- the words that a text is, as the values below compute them
reads : ℕ → List ℕ → Result (List Word × List ℕ) WordFault
unfolding words_at words_from word_at after_gaps skipped gap_len may_open most_nested matched_from after_byte joined_from is_over escaped_at name_from
    braced_name_at name_at index_at plain_at piece_at pieces_from parted braced_at quote_at quoted_at bare_at text_at
reads total s = words_at total s

-- a word of these bytes at an offset
abbrev text : ℕ → List ℕ → Word
text offset bytes = word.Text offset (Bytes bytes ∷ [])

-- a comment, a newline and an empty command stand before a command
comment_ends_with_its_line : after_blanks (codes "# a\n ;set") ≡ codes "set"
unfolding after_blanks skipped blank_len gap_len comment_from
comment_ends_with_its_line = refl

-- a backslash at its end takes the next line into the comment
comment_goes_on_after_a_backslash : after_blanks (codes "# a\\\nb\nset") ≡ codes "set"
unfolding after_blanks skipped blank_len gap_len comment_from
comment_goes_on_after_a_backslash = refl

-- a backslash before a newline parts words
line_goes_on_after_a_backslash : words_at 6 (codes "a \\\n b") ≡ Ok (text 0 (codes "a") ∷ text 5 (codes "b") ∷ [], [])
unfolding reads
line_goes_on_after_a_backslash = refl

-- a newline ends a command
command_ends_at_its_newline : words_at 5 (codes "a b\nc") ≡ Ok (text 0 (codes "a") ∷ text 2 (codes "b") ∷ [], codes "\nc")
unfolding reads
command_ends_at_its_newline = refl

-- a semicolon ends one on the same line
command_ends_at_a_semicolon : words_at 5 (codes "a b;c") ≡ Ok (text 0 (codes "a") ∷ text 2 (codes "b") ∷ [], codes ";c")
unfolding reads
command_ends_at_a_semicolon = refl

-- braces hold one word, with all that stands in them
braces_hold_one_word : words_at 9 (codes "a {b $c;}") ≡ Ok (text 0 (codes "a") ∷ text 2 (codes "b $c;") ∷ [], [])
unfolding reads
braces_hold_one_word = refl

-- inner braces are bytes of the word
braces_in_braces_stay : words_at 7 (codes "{a {b}}") ≡ Ok (text 0 (codes "a {b}") ∷ [], [])
unfolding reads
braces_in_braces_stay = refl

-- the fault lies at the brace that nothing closes
brace_that_is_not_closed_is_refused : words_at 4 (codes "a {b") ≡ Err (Syntax 2)
unfolding reads
brace_that_is_not_closed_is_refused = refl

-- directly after a closing brace no word may go on
word_after_a_closing_brace_is_refused : words_at 4 (codes "{a}b") ≡ Err (Syntax 3)
unfolding reads
word_after_a_closing_brace_is_refused = refl

-- quotes hold one word, in which variables count
quotes_hold_one_word : words_at 7 (codes "\"a b\" c")
    ≡ Ok (word.Text 0 (Bytes (codes "a") ∷ Bytes (codes " ") ∷ Bytes (codes "b") ∷ []) ∷ text 6 (codes "c") ∷ [], [])
unfolding reads
quotes_hold_one_word = refl

-- a variable stands for its value there
variable_in_quotes_counts : words_at 6 (codes "\"a$b\" ") ≡ Ok (word.Text 0 (Bytes (codes "a") ∷ Variable (codes "b") ∷ []) ∷ [], [])
unfolding reads
variable_in_quotes_counts = refl

-- a quoted word without its end is refused at the text's end
quote_that_is_not_closed_is_refused : words_at 2 (codes "\"a") ≡ Err (Syntax 2)
unfolding reads
quote_that_is_not_closed_is_refused = refl

-- a bare variable ends where its name does
variable_ends_with_its_name : words_at 4 (codes "$a/q") ≡ Ok (word.Text 0 (Variable (codes "a") ∷ Bytes (codes "/q") ∷ []) ∷ [], [])
unfolding reads
variable_ends_with_its_name = refl

-- in braces a name may have any byte
variable_in_braces_has_any_name : words_at 4 (codes "${-}") ≡ Ok (word.Text 0 (Variable (codes "-") ∷ []) ∷ [], [])
unfolding reads
variable_in_braces_has_any_name = refl

-- an index stays as it is, and so needs no braces
index_stays_as_it_is : words_at 6 (codes "d[3] e") ≡ Ok (word.Text 0 (Bytes (codes "d") ∷ Bytes (codes "[3]") ∷ []) ∷ text 5 (codes "e") ∷ [], [])
unfolding reads
index_stays_as_it_is = refl

-- brackets hold a command
brackets_hold_a_command : words_at 8 (codes "a [b c] ")
    ≡ Ok (text 0 (codes "a") ∷ word.Opens 2 ∷ text 3 (codes "b") ∷ text 5 (codes "c") ∷ word.Closes ∷ [], [])
unfolding reads
brackets_hold_a_command = refl

-- a command in brackets without its end is refused at the text's end
bracket_that_is_not_closed_is_refused : words_at 4 (codes "a [b") ≡ Err (Syntax 4)
unfolding reads
bracket_that_is_not_closed_is_refused = refl

-- a carriage return before a newline is left out, and no other one
carriage_return_before_a_newline_is_left_out : cleaned (97 ∷ 13 ∷ 10 ∷ 13 ∷ 98 ∷ []) ≡ 97 ∷ 10 ∷ 13 ∷ 98 ∷ []
unfolding cleaned
carriage_return_before_a_newline_is_left_out = refl

-- a place counts the bytes of the file itself
place_counts_the_carriage_returns_before_it : original (97 ∷ 13 ∷ 10 ∷ 98 ∷ []) 2 ≡ 3
unfolding original_from
place_counts_the_carriage_returns_before_it = refl

-- lines count from 1
first_line_is_1 : line_of (codes "a\nb") (codes "a\nb") ≡ 1
first_line_is_1 = refl

-- the byte after the first newline
byte_after_a_newline_is_on_line_2 : line_of (codes "a\nb") (codes "b") ≡ 2
byte_after_a_newline_is_on_line_2 = refl
