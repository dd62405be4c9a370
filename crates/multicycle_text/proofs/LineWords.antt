-- The words of a line, one by one.
use Rattle.std.proofs.Common.{◌≡◌, ℕ, suc, ◌-◌, true, List, [], ◌∷◌, ◌++◌, length, refl, Ok, codes}
use Rattle.std.specs.List.{list_all}
use Rattle.texts.specs.Rules.{most_nested}
use Rattle.sdc_words.specs.declared.words.Word.{Word}
use Rattle.sdc_words.specs.declared.words.Word.TheVariants.{Opens, Closes}
use Rattle.sdc_words.specs.Blanks.{gap_len, after_gaps, skipped}
use Rattle.sdc_words.specs.Braces.{may_open}
use Rattle.sdc_words.specs.Pieces.{is_over, plain_at, piece_at, pieces_from}
use Rattle.sdc_words.specs.Texts.{parted, text_at, bare_at}
use Rattle.sdc_words.specs.Words.{word_at, words_from}
use Rattle.multicycle_text.specs.Names.{is_name_byte}
use Rattle.multicycle_text.proofs.NameBytes.{not_empty}
use Rattle.multicycle_text.proofs.BraceWords.{braced_name}
use Rattle.multicycle_text.proofs.LineShapes.{word_by}

-- the place at which this is left of a text
abbrev place : ℕ → List ℕ → ℕ
place total s = total - length s

-- the command's name
pub command_word : (total : ℕ) (s : List ℕ) → word_at 0 total (codes "set_multicycle_path " ++ s)
    ≡ Ok ((0, word_by (place total (codes "set_multicycle_path " ++ s)) (codes "set_multicycle_path")), 32 ∷ s)
unfolding word_at text_at bare_at piece_at plain_at pieces_from is_over gap_len
command_word total s = rw (not_empty (length (codes "et_multicycle_path " ++ s)), word_at) refl

module _ (total n : ℕ) (found : List Word) where
  -- `-hold`
  pub hold_word : (s : List ℕ) → words_from (suc n) 0 found total (codes " -hold " ++ s)
      ≡ words_from n 0 (found ++ word_by (place total (codes "-hold " ++ s)) (codes "-hold") ∷ []) total (32 ∷ s)
  unfolding words_from word_at text_at bare_at piece_at plain_at pieces_from is_over gap_len after_gaps skipped
  hold_word s = rw (not_empty (length (codes "hold " ++ s)), words_from) refl

  -- `-from`
  pub from_word : (s : List ℕ) → words_from (suc n) 0 found total (codes " -from [" ++ s)
      ≡ words_from n 0 (found ++ word_by (place total (codes "-from [" ++ s)) (codes "-from") ∷ []) total (codes " [" ++ s)
  unfolding words_from word_at text_at bare_at piece_at plain_at pieces_from is_over gap_len after_gaps skipped
  from_word s = rw (not_empty (length (codes "from [" ++ s)), words_from) refl

  -- `-to`
  pub to_word : (s : List ℕ) → words_from (suc n) 0 found total (codes " -to [" ++ s)
      ≡ words_from n 0 (found ++ word_by (place total (codes "-to [" ++ s)) (codes "-to") ∷ []) total (codes " [" ++ s)
  unfolding words_from word_at text_at bare_at piece_at plain_at pieces_from is_over gap_len after_gaps skipped
  to_word s = rw (not_empty (length (codes "to [" ++ s)), words_from) refl

  -- a `[` opens a nested command
  pub bracket : (s : List ℕ) → words_from (suc n) 0 found total (codes " [" ++ s)
      ≡ words_from n 1 (found ++ Opens (place total (codes "[" ++ s)) ∷ []) total s
  unfolding words_from word_at may_open most_nested gap_len after_gaps skipped
  bracket s = rw (not_empty (length s), words_from) refl

  -- its name
  pub get_word : (s : List ℕ) → words_from (suc n) 1 found total (codes "get_cells {" ++ s)
      ≡ words_from n 1 (found ++ word_by (place total (codes "get_cells {" ++ s)) (codes "get_cells") ∷ []) total (codes " {" ++ s)
  unfolding words_from word_at text_at bare_at piece_at plain_at pieces_from is_over gap_len after_gaps skipped
  get_word s = rw (not_empty (length (codes "et_cells {" ++ s)), words_from) refl

  -- a cell's name in braces
  pub name_word : (a s : List ℕ) → list_all is_name_byte a ≡ true → words_from (suc n) 1 found total (codes " {" ++ (a ++ 125 ∷ 93 ∷ s))
      ≡ words_from n 1 (found ++ word_by (place total (123 ∷ (a ++ 125 ∷ 93 ∷ s))) a ∷ []) total (93 ∷ s)
  unfolding words_from word_at text_at parted is_over gap_len after_gaps skipped
  name_word a s okay = rw (braced_name total a (93 ∷ s) okay, not_empty (length (a ++ 125 ∷ 93 ∷ s)), words_from) refl

  -- its `]`, within a line
  pub closed_space : (s : List ℕ) → words_from (suc n) 1 found total (codes "] " ++ s) ≡ words_from n 0 (found ++ Closes ∷ []) total (32 ∷ s)
  unfolding words_from word_at parted is_over gap_len after_gaps skipped
  closed_space s = refl

  -- and at the end of one
  pub closed_line : (s : List ℕ) → words_from (suc n) 1 found total (93 ∷ 10 ∷ s) ≡ words_from n 0 (found ++ Closes ∷ []) total (10 ∷ s)
  unfolding words_from word_at parted is_over gap_len after_gaps skipped
  closed_line s = rw (not_empty (length s), words_from) refl

  -- the newline ends the command
  pub ended : (s : List ℕ) → words_from (suc n) 0 found total (10 ∷ s) ≡ Ok (found, 10 ∷ s)
  unfolding words_from gap_len after_gaps skipped
  ended s = rw (not_empty (length s), words_from) refl
