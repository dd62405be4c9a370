-- A name as one word.
use Rattle.std.proofs.Common.{◌≡◌, ℕ, List, [], ◌∷◌, length, map, ap, refl, arith}
use Rattle.std.specs.Prelude.{codes}
use Rattle.vcd_text.specs.Lines.{word, first_printed, printed}

-- of no bytes
pub word_none : (name : List ℕ) → length name ≡ 0 → word name ≡ codes "_"
word_none [] none = refl
word_none (b ∷ bs) none = absurd (omega arith)

-- of a first byte and others
pub word_first : (name : List ℕ) (first : ℕ) (rest : List ℕ) → name ≡ first ∷ rest → word name ≡ first_printed first ∷ map printed rest
word_first name first rest is = ap word is
