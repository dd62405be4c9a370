-- The front of a command.
use Rattle.std.proofs.Common.{◌≡◌, ◌∙◌, ℕ, suc, false, List, [], ◌∷◌, length, take, Option, Some, Result, Ok, Err, refl, ap, sym, ◌==◌}
use Rattle.texts.specs.Rules.{◌>>=◌}
use Rattle.sdc_words.specs.declared.faults.WordFault.{WordFault}
use Rattle.sdc_words.specs.declared.words.RawCommand.{RawCommand}
use Rattle.sdc_words.specs.declared.words.Word.{Word}
use Rattle.sdc_words.specs.Blanks.{after_blanks}
use Rattle.sdc_words.specs.Commands.{command_at}
use Rattle.sdc_words.specs.Lines.{line_of}
use Rattle.sdc_words.specs.Words.{word_at, words_at, words_after}
use Rattle.sdc_words.proofs.ReadLemmas.{value_or}
use Rattle.sdc_words.proofs.WordLemmas.{words_keep}

abbrev made : ℕ → List Word → RawCommand
made line words = record { line = line; words = words }

abbrev command_by : ℕ → Result (List Word × List ℕ) WordFault → Result (Option RawCommand × List ℕ) WordFault
command_by line r = r >>= λ p. Ok (Some (made line p.0), p.1)

begins : (r : Result (List Word × List ℕ) WordFault) (line : ℕ) (x : Word) (command : RawCommand) (left : List ℕ)
    → ((ws : List Word) (u : List ℕ) → r ≡ Ok (ws, u) → take 1 ws ≡ x ∷ [])
    → command_by line r ≡ Ok (Some command, left) → (command.line ≡ line) × (take 1 command.words ≡ x ∷ [])
unfolding value_or
begins (Ok p) line x command left keeps e =
    let read : (Some (made line p.0), p.1) ≡ (Some command, left) = ap (value_or (Some command, left)) e in
    let some : Some (made line p.0) ≡ Some command = ap (λ (q : Option RawCommand × List ℕ). q.0) read in
    let same : made line p.0 ≡ command = cc in
    (rw (← same) refl, rw (← same) (keeps p.0 p.1 refl))
begins (Err why) line x command left keeps e = absurd cc

front_at : (text s : List ℕ) (x : Word) (next : ℕ) (t : List ℕ) → (length (after_blanks s) == 0) ≡ false
    → word_at 0 (length text) (after_blanks s) ≡ Ok ((next, x), t)
    → command_at text s ≡ command_by (line_of text (after_blanks s)) (words_after next (x ∷ []) (length text) t)
unfolding command_at words_at
front_at text s x next t some first = rw (some, first) refl

-- the next command begins with its first word
pub is_front : (text s r : List ℕ) (line : ℕ) (x : Word) (words : List Word) (next : ℕ) (t : List ℕ) → r ≡ after_blanks s → line ≡ line_of text r
    → (length r == 0) ≡ false → word_at 0 (length text) r ≡ Ok ((next, x), t) → words ≡ x ∷ []
    → (command : RawCommand) (left : List ℕ) → command_at text s ≡ Ok (Some command, left) → (command.line ≡ line) × (take 1 command.words ≡ words)
is_front text s r line x words next t here told some first same command left read =
    let at = front_at text s x next t (rw here at some) (rw here at first) in
    let (lines, front) = begins (words_after next (x ∷ []) (length text) t) (line_of text (after_blanks s)) x command left
    (λ ws u. words_keep (suc (length t)) next x [] (length text) t ws u) (sym at ∙ read) in
    (lines ∙ sym (told ∙ ap (line_of text) here), front ∙ sym same)
