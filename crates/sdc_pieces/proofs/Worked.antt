-- Texts and what they are with other commands, worked out by hand.
use Rattle.std.proofs.Common.{◌≡◌, ℕ, List, [], ◌∷◌, ◌++◌, map, Option, Some, None, refl}
use Rattle.std.specs.Prelude.{codes}
use Rattle.texts.specs.Rules.{most_nested}
use Rattle.sdc_words.specs.Blanks.{gap_len, comment_from, blank_len, skipped, after_gaps, after_blanks}
use Rattle.sdc_words.specs.Braces.{may_open, after_byte, matched_from}
use Rattle.sdc_words.specs.Commands.{command_at}
use Rattle.sdc_words.specs.Pieces as words
use Rattle.sdc_words.specs.Pieces.{is_over, plain_at, piece_at}
use Rattle.sdc_words.specs.Texts.{parted, braced_at, quoted_at, bare_at, text_at}
use Rattle.sdc_words.specs.Words.{word_at, words_from, words_at}
use Rattle.sdc_pieces.specs.Pieces.{pieces_from, with_bodies, rewritten}

-- a text, bodies, and what it is with them
record Case : Type 0 where
  pub text : List ℕ
  pub bodies : List (Option (List ℕ))
  pub new : List ℕ

abbrev case : List ℕ → List (Option (List ℕ)) → List ℕ → Case
case text bodies new = record { text = text; bodies = bodies; new = new }

-- a brace word goes on over lines
abbrev two_lines : List ℕ
two_lines = codes "get {a" ++ 10 ∷ codes "b}"

-- these lines of a text, each with its newline
abbrev lines : List ℕ → List ℕ → List ℕ
lines first second = first ++ 10 ∷ second ++ 10 ∷ []

abbrev cases : List Case
cases =
    -- two commands on a line, and a comment, which is a gap: the blank before the `;` is part of the first one
    case (codes "set a 1 ;set_load 1 x; # why") (Some (codes "b") ∷ None ∷ []) (codes "b;set_load 1 x; # why")
    ∷ case (codes "set a 1 ;set_load 1 x; # why") (None ∷ Some (codes "b") ∷ []) (codes "set a 1 ;b; # why")
    -- a comment before a command, and a `;` in it
    ∷ case (lines (codes "# a; b") (codes " c d")) (Some (codes "e") ∷ []) (lines (codes "# a; b") (codes " e"))
    -- a brace word over lines is part of its command
    ∷ case (two_lines ++ codes "; c") (None ∷ Some (codes "d") ∷ []) (two_lines ++ codes "; d")
    ∷ case (two_lines ++ codes "; c") (Some (codes "d") ∷ None ∷ []) (codes "d; c")
    -- a body that ends in a comment's line, before a command on the same line
    ∷ case (lines (codes "m 2 -to b; set_load 1 y") (codes "z")) (Some (lines (codes "# m") (codes "# n")) ∷ [])
    (codes "# m" ++ 10 ∷ codes "# n" ++ 10 ∷ lines (codes "; set_load 1 y") (codes "z"))
    -- from a command that cannot be read on all stays
    ∷ case (codes "a b; {c; d") (Some (codes "x") ∷ Some (codes "y") ∷ Some (codes "z") ∷ []) (codes "x; {c; d")
    -- bodies past the last command change nothing, and neither do none
    ∷ case (codes "a; ") (Some [] ∷ Some (codes "y") ∷ []) (codes "; ")
    ∷ case (codes "a; b") [] (codes "a; b")
    ∷ []

each_is_rewritten : map (λ (c : Case). rewritten c.text c.bodies) cases ≡ map (λ (c : Case). c.new) cases
unfolding gap_len comment_from blank_len skipped after_gaps after_blanks most_nested may_open after_byte matched_from command_at is_over plain_at piece_at
    words.pieces_from parted braced_at quoted_at bare_at text_at word_at words_from words_at pieces_from with_bodies
each_is_rewritten = refl
