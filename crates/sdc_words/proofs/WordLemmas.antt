-- One turn of the loop over the words of a command.
use Rattle.std.proofs.Common.{◌≡◌, ◌∙◌, ℕ, zero, suc, ◌+◌, ◌<◌, true, false, ◌&&◌, List, [], ◌∷◌, ◌++◌, take, Result, Ok, Err, refl, sym, ap, arith, ◌==◌}
use Rattle.texts.specs.Rules.{◌>>=◌}
use Rattle.sdc_words.specs.declared.faults.WordFault.{WordFault}
use Rattle.sdc_words.specs.declared.words.Word.{Word}
use Rattle.sdc_words.specs.Blanks.{after_gaps}
use Rattle.sdc_words.specs.Pieces.{ends_command}
use Rattle.sdc_words.specs.Words.{word_at, word_past, words_from}
use Rattle.sdc_words.proofs.ReadLemmas.{value_or}

module _ (opened : ℕ) (found : List Word) (total : ℕ) (s : List ℕ) where
  -- the command ends
  pub words_end : (m : ℕ) → 0 < m → (opened == 0 && ends_command (after_gaps s)) ≡ true → words_from m opened found total s ≡ Ok (found, after_gaps s)
  unfolding words_from
  words_end zero some e = absurd (omega arith)
  words_end (suc m) some e = rw e refl

  -- a word comes next
  pub words_more : (m next : ℕ) (x : Word) (t : List ℕ) → 0 < m → (opened == 0 && ends_command (after_gaps s)) ≡ false
      → word_at opened total (after_gaps s) ≡ Ok ((next, x), t)
      → (n : ℕ) × (m ≡ n + 1) × (words_from m opened found total s ≡ words_from n next (found ++ x ∷ []) total t)
  unfolding words_from
  words_more zero next x t some e good = absurd (omega arith)
  words_more (suc m) next x t some e good = (m, omega arith, rw (e, good) refl)

  -- none does
  pub words_bad : (m : ℕ) (why : WordFault) → 0 < m → (opened == 0 && ends_command (after_gaps s)) ≡ false → word_at opened total (after_gaps s) ≡ Err why
      → words_from m opened found total s ≡ Err why
  unfolding words_from
  words_bad zero why some e bad = absurd (omega arith)
  words_bad (suc m) why some e bad = rw (e, bad) refl

abbrev passed : Result ((ℕ × Word) × List ℕ) WordFault → Result (ℕ × List ℕ) WordFault
passed r = r >>= λ p. Ok (p.0.0, p.1)

given : (r : Result ((ℕ × Word) × List ℕ) WordFault) (next : ℕ) (t : List ℕ) → passed r ≡ Ok (next, t) → (x : Word) × (r ≡ Ok ((next, x), t))
unfolding value_or
given (Ok p) next t e =
    let same : (p.0.0, p.1) ≡ (next, t) = ap (value_or (next, t)) e in
    let opened : p.0.0 ≡ next = ap (λ (w : ℕ × List ℕ). w.0) same in
    let left : p.1 ≡ t = ap (λ (w : ℕ × List ℕ). w.1) same in
    (p.0.1, rw (← opened, ← left) refl)
given (Err why) next t e = absurd cc

faulty : (r : Result ((ℕ × Word) × List ℕ) WordFault) (why : WordFault) → passed r ≡ Err why → r ≡ Err why
faulty (Ok p) why e = absurd cc
faulty (Err other) why e = let same : other ≡ why = cc in rw same refl

module _ (opened total : ℕ) (s : List ℕ) where
  -- a word that is passed is one
  pub word_of_past : (next : ℕ) (t : List ℕ) → word_past opened total s ≡ Ok (next, t) → (x : Word) × (word_at opened total s ≡ Ok ((next, x), t))
  word_of_past next t e = given (word_at opened total s) next t e

  -- a fault of a word that is passed is one of it
  pub word_bad : (why : WordFault) → word_past opened total s ≡ Err why → word_at opened total s ≡ Err why
  word_bad why e = faulty (word_at opened total s) why e

-- the words begin with those found before
pub words_keep : (n opened : ℕ) (x : Word) (xs : List Word) (total : ℕ) (s : List ℕ) (ws : List Word) (t : List ℕ)
    → words_from n opened (x ∷ xs) total s ≡ Ok (ws, t) → take 1 ws ≡ x ∷ []
unfolding words_from value_or
words_keep zero opened x xs total s ws t e = absurd cc
words_keep (suc n) opened x xs total s ws t e =
    elim (opened == 0 && ends_command (after_gaps s)) as (λ b. (opened == 0 && ends_command (after_gaps s)) ≡ b → take 1 ws ≡ x ∷ []) [
      | true ↦ λ end.
          let all = sym (words_end opened (x ∷ xs) total s (suc n) (omega arith) end) ∙ e in
          let same : (x ∷ xs, after_gaps s) ≡ (ws, t) = ap (value_or (ws, t)) all in
          let words : x ∷ xs ≡ ws = ap (λ (p : List Word × List ℕ). p.0) same in
          rw (← words) refl
      | false ↦ λ on. elim (word_at opened total (after_gaps s)) as (λ r. word_at opened total (after_gaps s) ≡ r → take 1 ws ≡ x ∷ []) [
        | Ok p ↦ λ good. words_keep n p.0.0 x (xs ++ p.0.1 ∷ []) total p.1 ws t (rw (on, good) at e)
        | Err why ↦ λ bad. let no = sym (words_bad opened (x ∷ xs) total s (suc n) why (omega arith) on bad) ∙ e in absurd cc
      ] refl
    ] refl
