-- What a line says, by its first byte.
use Rattle.std.proofs.Common.{◌≡◌, ◌≢◌, ℕ, Bool, true, false, List, [], ◌∷◌, map, length, get_or, refl, ap, ap₂, ◌∙◌, arith}
use Rattle.std.specs.Prelude.{slice_index, if◌then◌else◌}
use Rattle.std.specs.Borrow.{Bor}
use Rattle.std.proofs.lemmas.Bool.{ne_eqb}
use Rattle.std.proofs.lemmas.List.{get_or-map}
use Rattle.dimacs_text.specs.Tokens.{Placed, is_header, header, counts, number, words_of, tokens_in, placed_in, placed_words}
use Rattle.dimacs_text.specs.declared.tokens.Token.{Token}
use Rattle.dimacs_text.specs.declared.tokens.Token.TheVariants.{NoHeader}
use Rattle.dimacs_text.proofs.Placing.{now_of}

-- the header that words are
pub header_yes : (words : List (Bor (List ℕ))) (d e : Bor (List ℕ)) → length words ≡ 4 → is_header (map now_of words) ≡ true
    → header (map now_of words) ≡ counts (get_or words 2 d).now (get_or words 3 e).now
unfolding header
header_yes words d e four is =
    let ws = map now_of words in
    ap (λ (b : Bool). if b then counts (get_or ws 2 []) (get_or ws 3 []) else NoHeader) is
    ∙ ap₂ counts (get_or-map now_of words 2 d [] (omega (arith, four))) (get_or-map now_of words 3 e [] (omega (arith, four)))

pub header_no : (words : List (Bor (List ℕ))) → is_header (map now_of words) ≡ false → header (map now_of words) ≡ NoHeader
unfolding header
header_no words is =
    let ws = map now_of words in
    ap (λ (b : Bool). if b then counts (get_or ws 2 []) (get_or ws 3 []) else NoHeader) is

-- a comment says nothing
comment_tokens : (line : List ℕ) → slice_index line 0 ≡ 99 → tokens_in line ≡ []
unfolding tokens_in
comment_tokens line is = rw is refl

header_tokens : (line : List ℕ) → slice_index line 0 ≡ 112 → tokens_in line ≡ header (words_of line) ∷ []
unfolding tokens_in
header_tokens line is = rw is refl

word_tokens : (line : List ℕ) → slice_index line 0 ≢ 99 → slice_index line 0 ≢ 112 → tokens_in line ≡ map number (words_of line)
unfolding tokens_in
word_tokens line first other = rw (ne_eqb (slice_index line 0) 99 first, ne_eqb (slice_index line 0) 112 other) refl

abbrev placed_at : ℕ → Token → Placed
placed_at at t = (at, t)

pub comment_says : (at : ℕ) (line : List ℕ) → slice_index line 0 ≡ 99 → placed_in at line ≡ []
comment_says at line is = ap (map (placed_at at)) (comment_tokens line is)

-- a line that begins as a header does says one
pub header_says : (at : ℕ) (line : List ℕ) → slice_index line 0 ≡ 112 → placed_in at line ≡ (at, header (words_of line)) ∷ []
header_says at line is = ap (map (placed_at at)) (header_tokens line is)

said_words : (at : ℕ) (words : List (List ℕ)) → map (placed_at at) (map number words) ≡ placed_words at words
said_words at [] = refl
said_words at (word ∷ words) = ap (λ (ps : List Placed). (at, number word) ∷ ps) (said_words at words)

-- and any other says its words
pub words_say : (at : ℕ) (line : List ℕ) → slice_index line 0 ≢ 99 → slice_index line 0 ≢ 112 → placed_in at line ≡ placed_words at (words_of line)
words_say at line first other = ap (map (placed_at at)) (word_tokens line first other) ∙ said_words at (words_of line)
