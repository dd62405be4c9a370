-- What the parts of a line's reader say.
use Rattle.std.specs.Prelude.{◌≡◌, ℕ, ◌∷◌, ◌++◌, [], Bool, true, false, List, Option, None, Some, map}
use Rattle.std.specs.Borrow.{Bor}
use Rattle.cert_words.specs.Words.{words}
use Rattle.cert_words.specs.Numbers.{zero_word}
use Rattle.cert_words.specs.Growth.{Grows, Fails}
use Rattle.cert_words.specs.declared.words.Words.{Words}
use Rattle.cert_words.specs.declared.words.Words.TheVariants.{Done, Whole, Cut}
use Rattle.cert_words.specs.declared.words.NextWord.{NextWord}
use Rattle.cert_words.specs.declared.words.NextWord.TheVariants as next
use Rattle.cert_words.specs.declared.stops.Stop.{Stop}
use Rattle.cert_words.specs.declared.stops.Stop.TheVariants.{Bad, Early}

-- the words that are left
abbrev pub left : Words → List (List ℕ)
left Done = []
left (Whole text) = words text.now
left (Cut text) = words text.now

-- they are those of a line that is cut off
abbrev pub is_cut : Words → Bool
is_cut Done = false
is_cut (Whole text) = false
is_cut (Cut text) = true

abbrev pub no_words : List (List ℕ) → Bool
no_words [] = true
no_words (w ∷ ws) = false

-- the words after a first one
abbrev pub words_after : Option (Bor (List ℕ)) → List (List ℕ)
words_after None = []
words_after (Some text) = words text.now

-- these words of a line were passed, and those are left
pub record IsAt (line : List ℕ) (cut : Bool) (passed : List (List ℕ)) (now : Words) : Type 0 where
  pub is : words line ≡ passed ++ left now
  pub same : is_cut now ≡ cut

-- these words were passed
pub record Passes (part : List (List ℕ)) (was now : Words) : Type 0 where
  pub is : left was ≡ part ++ left now
  pub same : is_cut now ≡ is_cut was

-- the word that comes next: only one that is whole is passed
abbrev pub IsNext : Words → Words → NextWord → Type 0
IsNext was now next.Missing = left was ≡ []
IsNext was now (next.Whole word) = Passes (word.now ∷ []) was now
IsNext was now (next.Cut word) = (is_cut was ≡ true) × (left was ≡ word.now ∷ [])

-- the words of a value that fits, and others
pub record HasPart {V : Type 0} (Fits : V → Type 0) (ws : V → List (List ℕ)) (x : List (List ℕ)) : Type 0 where
  pub value : V
  pub tail : List (List ℕ)
  pub fits : Fits value
  pub is : x ≡ ws value ++ tail

-- the words of a value that fits, and those that are to follow it
pub record HasPartBefore {V : Type 0} (Fits : V → Type 0) (ws tail : V → List (List ℕ)) (x : List (List ℕ)) : Type 0 where
  pub value : V
  pub fits : Fits value
  pub is : x ≡ ws value ++ tail value

-- why no such part comes next: what is left breaks the form, or is cut off before it does
pub record IsPartStop {V : Type 0} (Fits : V → Type 0) (ws : V → List (List ℕ)) (was : Words) (stop : Stop) : Type 0 where
  pub bad : stop ≡ Bad → Fails (is_cut was) (HasPart Fits ws) (left was)
  pub cut : stop ≡ Early → is_cut was ≡ true
  pub grows : stop ≡ Early → (tail : V → List (List ℕ)) → Grows (HasPartBefore Fits ws tail) (left was)

-- a part that is one word
abbrev pub one : {V : Type 0} → (V → List ℕ) → V → List (List ℕ)
one word v = word v ∷ []

-- the words of a row of items, which the word 0 ends
abbrev pub row : {A : Type 0} → (A → List ℕ) → List A → List (List ℕ)
row word items = map word items ++ zero_word ∷ []
