-- Words of the language.
use Rattle.std.proofs.Common.{◌≡◌, ℕ, ◌<◌, false, true, List, [], ◌∷◌, length, refl, ap, sym, ◌∙◌, arith}
use Rattle.std.specs.Prelude.{None, IsSome, is_some}
use Rattle.verilog_words.specs.Words.{word_of, module_word, gate_word, is_behaviour, is_strength}

no_word : word_of [] ≡ None
unfolding word_of module_word gate_word is_behaviour is_strength
no_word = refl

-- a word has a byte
pub word_some : (x : List ℕ) → IsSome (word_of x) → 0 < length x
word_some [] found = let differ : false ≡ true = sym (ap is_some no_word) ∙ found in absurd cc
word_some (b ∷ x) found = omega arith
