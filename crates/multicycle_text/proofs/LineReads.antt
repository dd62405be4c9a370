-- The words of a whole line.
use Rattle.std.proofs.Common.{◌≡◌, ℕ, suc, ◌-◌, ◌≤◌, Bool, true, false, List, [], ◌∷◌, ◌++◌, length, length-append, refl, ap, arith, ◌∙◌, Ok, codes}
use Rattle.std.specs.Char.{is_ascii_digit}
use Rattle.std.specs.List.{list_all}
use Rattle.sdc_words.specs.Words.{words_from, words_at}
use Rattle.multicycle_text.specs.Names.{is_name_byte}
use Rattle.multicycle_text.proofs.LineShapes.{after_number, whole_line, places, name_at, line_words}
use Rattle.multicycle_text.proofs.LineWords.{command_word, hold_word, from_word, to_word, bracket, get_word, name_word, closed_space, closed_line, ended}
use Rattle.multicycle_text.proofs.Numbers.{IsNumber}
use Rattle.multicycle_text.proofs.NumberWords.{number_word}

-- thirteen turns are enough: at most twelve words follow the first
room : (n : ℕ) → 13 ≤ n → (m : ℕ) × (n ≡ suc (suc (suc (suc (suc (suc (suc (suc (suc (suc (suc (suc (suc m)))))))))))))
room n many = (n - 13, omega arith)

module _ (total b : ℕ) (v start end rest : List ℕ) where
  -- where the words stand
  abbrev at : Bool → ℕ → ℕ
  at hold = places total (b ∷ v) hold start end rest

  -- the words after the command's name
  later_read : (m : ℕ) (hold : Bool) → list_all is_ascii_digit (b ∷ v) ≡ true → list_all is_name_byte start ≡ true → list_all is_name_byte end ≡ true
      → words_from (suc (suc (suc (suc (suc (suc (suc (suc (suc (suc (suc (suc (suc m))))))))))))) 0 (name_at (at hold) ∷ []) total
      (32 ∷ ((b ∷ v) ++ after_number hold start end rest)) ≡ Ok (line_words (at hold) (b ∷ v) hold start end, 10 ∷ rest)
  later_read m false digits first second =
      let last : List ℕ = end ++ 125 ∷ 93 ∷ 10 ∷ rest in
      let to : List ℕ = codes "-to [get_cells {" ++ last in
      let middle : List ℕ = start ++ 125 ∷ 93 ∷ 32 ∷ to in
      number_word total _ _ b v (codes "-from [get_cells {" ++ middle) digits
      ∙ from_word total _ _ (codes "get_cells {" ++ middle)
      ∙ bracket total _ _ (codes "get_cells {" ++ middle)
      ∙ get_word total _ _ middle
      ∙ name_word total _ _ start (32 ∷ to) first
      ∙ closed_space total _ _ to
      ∙ to_word total _ _ (codes "get_cells {" ++ last)
      ∙ bracket total _ _ (codes "get_cells {" ++ last)
      ∙ get_word total _ _ last
      ∙ name_word total _ _ end (10 ∷ rest) second
      ∙ closed_line total _ _ rest
      ∙ ended total _ _ rest
  later_read m true digits first second =
      let last : List ℕ = end ++ 125 ∷ 93 ∷ 10 ∷ rest in
      let to : List ℕ = codes "-to [get_cells {" ++ last in
      let middle : List ℕ = start ++ 125 ∷ 93 ∷ 32 ∷ to in
      number_word total _ _ b v (codes "-hold -from [get_cells {" ++ middle) digits
      ∙ hold_word total _ _ (codes "-from [get_cells {" ++ middle)
      ∙ from_word total _ _ (codes "get_cells {" ++ middle)
      ∙ bracket total _ _ (codes "get_cells {" ++ middle)
      ∙ get_word total _ _ middle
      ∙ name_word total _ _ start (32 ∷ to) first
      ∙ closed_space total _ _ to
      ∙ to_word total _ _ (codes "get_cells {" ++ last)
      ∙ bracket total _ _ (codes "get_cells {" ++ last)
      ∙ get_word total _ _ last
      ∙ name_word total _ _ end (10 ∷ rest) second
      ∙ closed_line total _ _ rest
      ∙ ended total _ _ rest

  -- the command's name is the first word
  first_read : (hold : Bool) → words_at total (whole_line (b ∷ v) hold start end rest)
      ≡ words_from (suc (length (32 ∷ ((b ∷ v) ++ after_number hold start end rest)))) 0 (name_at (at hold) ∷ []) total
      (32 ∷ ((b ∷ v) ++ after_number hold start end rest))
  unfolding words_at
  first_read hold = rw (command_word total ((b ∷ v) ++ after_number hold start end rest)) refl

  -- what follows a number is long
  long : (hold : Bool) → 13 ≤ length (after_number hold start end rest)
  long false = omega arith
  long true = omega arith

  -- a line of digits and two names has its words
  digits_read : (hold : Bool) → list_all is_ascii_digit (b ∷ v) ≡ true → list_all is_name_byte start ≡ true → list_all is_name_byte end ≡ true
      → words_at total (whole_line (b ∷ v) hold start end rest) ≡ Ok (line_words (at hold) (b ∷ v) hold start end, 10 ∷ rest)
  digits_read hold digits first second =
      let later : List ℕ = 32 ∷ ((b ∷ v) ++ after_number hold start end rest) in
      let (m, is) = room (suc (length later)) (omega (arith, length-append v (after_number hold start end rest), long hold)) in
      first_read hold ∙ ap (λ (n : ℕ). words_from n 0 (name_at (at hold) ∷ []) total later) is ∙ later_read m hold digits first second

-- a line has its words
pub line_read : (total k : ℕ) (hold : Bool) (number start end rest : List ℕ) → IsNumber hold number k → list_all is_name_byte start ≡ true
    → list_all is_name_byte end ≡ true → words_at total (whole_line number hold start end rest)
    ≡ Ok (line_words (places total number hold start end rest) number hold start end, 10 ∷ rest)
line_read total k hold number start end rest n first second = rw n.is (digits_read total n.head n.tail start end rest hold n.digits first second)
