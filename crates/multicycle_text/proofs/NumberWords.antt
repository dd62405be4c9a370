-- A number is read as a word of its digits.
use Rattle.std.proofs.Common.{◌≡◌, ℕ, suc, ◌-◌, true, false, ◌==◌, List, [], ◌∷◌, ◌++◌, length, take, drop, refl, arith, ◌∙◌, Ok}
use Rattle.std.specs.Char.{is_ascii_digit}
use Rattle.std.specs.List.{list_all, prefix_len}
use Rattle.std.proofs.Math.Seq.{take-append_seam, drop-append_seam}
use Rattle.std.proofs.lemmas.Bool.{and_parts}
use Rattle.texts.specs.Fronts.{first}
use Rattle.sdc_words.specs.declared.pieces.Within.TheVariants as within
use Rattle.sdc_words.specs.declared.words.Piece.TheVariants.{Bytes}
use Rattle.sdc_words.specs.declared.words.Word.{Word}
use Rattle.sdc_words.specs.Blanks.{gap_len, after_gaps, skipped}
use Rattle.sdc_words.specs.Pieces.{is_over, is_plain, plain_at, piece_at, pieces_from}
use Rattle.sdc_words.specs.Texts.{text_at, bare_at}
use Rattle.sdc_words.specs.Words.{word_at, words_from}
use Rattle.multicycle_text.proofs.LineShapes.{word_by}
use Rattle.multicycle_text.proofs.NameBytes.{differs, not_empty}

-- a digit is no mark
no_mark : (b mark : ℕ) → is_ascii_digit mark ≡ false → is_ascii_digit b ≡ true → (b == mark) ≡ false
no_mark b mark off on = differs is_ascii_digit b mark off on

-- so it is plain
digit_plain : (b : ℕ) → is_ascii_digit b ≡ true → is_plain b ≡ true
digit_plain b on =
    rw (no_mark b 32 refl on, no_mark b 9 refl on, no_mark b 10 refl on, no_mark b 59 refl on, no_mark b 93 refl on, no_mark b 34 refl on)
    (rw (no_mark b 92 refl on, no_mark b 36 refl on, no_mark b 91 refl on) refl)

-- digits are plain up to the space after them
plain_len : (w s : List ℕ) → list_all is_ascii_digit w ≡ true → prefix_len is_plain (w ++ 32 ∷ s) ≡ length w
plain_len [] s digits = refl
plain_len (b ∷ v) s digits =
    let (here, more) = and_parts (is_ascii_digit b) (list_all is_ascii_digit v) digits in
    rw (digit_plain b here, plain_len v s more) (omega arith)

-- what begins with no mark is plain up to the next byte that is not
plain_front : (total n : ℕ) (s : List ℕ) → prefix_len is_plain s ≡ suc n → plain_at total s ≡ Ok (Bytes (take (suc n) s), drop (suc n) s)
unfolding plain_at
plain_front total n s e = rw (e, not_empty n) refl

-- what begins with none of these marks begins with plain bytes
piece_front : (total : ℕ) (s : List ℕ) → (first s == 92) ≡ false → (first s == 36) ≡ false → (first s == 91) ≡ false
    → piece_at within.Command total s ≡ plain_at total s
unfolding piece_at
piece_front total s slash dollar bracket = rw (slash, dollar, bracket) refl

-- digits are one piece
number_piece : (total b : ℕ) (v s : List ℕ) → list_all is_ascii_digit (b ∷ v) ≡ true
    → piece_at within.Command total ((b ∷ v) ++ 32 ∷ s) ≡ Ok (Bytes (b ∷ v), 32 ∷ s)
number_piece total b v s digits =
    let (here, more) = and_parts (is_ascii_digit b) (list_all is_ascii_digit v) digits in
    let all : List ℕ = (b ∷ v) ++ 32 ∷ s in
    piece_front total all (no_mark b 92 refl here) (no_mark b 36 refl here) (no_mark b 91 refl here)
    ∙ plain_front total (length v) all (plain_len (b ∷ v) s digits)
    ∙ rw (take-append_seam (b ∷ v) (32 ∷ s), drop-append_seam (b ∷ v) (32 ∷ s)) refl

-- and one word
number_at : (total b : ℕ) (v s : List ℕ) → list_all is_ascii_digit (b ∷ v) ≡ true
    → word_at 0 total ((b ∷ v) ++ 32 ∷ s) ≡ Ok ((0, word_by (total - length ((b ∷ v) ++ 32 ∷ s)) (b ∷ v)), 32 ∷ s)
unfolding word_at text_at bare_at pieces_from is_over gap_len
number_at total b v s digits =
    let (here, more) = and_parts (is_ascii_digit b) (list_all is_ascii_digit v) digits in
    let some = not_empty (length (v ++ 32 ∷ s)) in
    rw (no_mark b 91 refl here, no_mark b 123 refl here, no_mark b 34 refl here, some, number_piece total b v s digits, word_at) refl

-- the gap before it
gap_before : (b : ℕ) (s : List ℕ) → is_ascii_digit b ≡ true → after_gaps (32 ∷ b ∷ s) ≡ b ∷ s
unfolding after_gaps skipped gap_len
gap_before b s on = rw (no_mark b 32 refl on, no_mark b 9 refl on, no_mark b 92 refl on, skipped) refl

-- a number between spaces
pub number_word : (total n : ℕ) (found : List Word) (b : ℕ) (v s : List ℕ) → list_all is_ascii_digit (b ∷ v) ≡ true
    → words_from (suc n) 0 found total (32 ∷ ((b ∷ v) ++ 32 ∷ s))
    ≡ words_from n 0 (found ++ word_by (total - length ((b ∷ v) ++ 32 ∷ s)) (b ∷ v) ∷ []) total (32 ∷ s)
unfolding words_from
number_word total n found b v s digits =
    let (here, more) = and_parts (is_ascii_digit b) (list_all is_ascii_digit v) digits in
    rw (gap_before b (v ++ 32 ∷ s) here, not_empty (length (v ++ 32 ∷ s)), no_mark b 10 refl here, no_mark b 59 refl here, words_from)
    (rw (number_at total b v s digits) refl)
