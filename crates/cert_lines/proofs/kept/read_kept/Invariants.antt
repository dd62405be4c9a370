use Rattle.std.proofs.Common.{◌≡◌, ◌⊎◌, ◌<◌, false, [], ◌∷◌, length, map}
use Rattle.std.specs.Prelude.{codes}
use Rattle.proof_log.specs.Literals.{lit_var}
use Rattle.cert_words.specs.Numbers.{IsLitAbove}
use Rattle.cert_words.specs.Growth.{Chain}
use Rattle.cert_words.specs.Parts.{left, IsAt}
use Rattle.cert_words.proofs.RowLemmas.{last_key}
use Rattle.cert_lines.specs.Kinds.{state_literal, state_word}
use Rattle.cert_lines.proofs.kept.read_kept.Given as goal

abbrev pub invariant-loop-lits : goal.invariant-loop-lits
invariant-loop-lits l = record {
  at : IsAt l.line l.cut (codes "k" ∷ map state_word l.lits) l.words;
  fit : Chain IsLitAbove lit_var 0 (map state_literal l.lits);
  above : l.above ≡ last_key lit_var 0 (map state_literal l.lits);
  room : l.long ≡ false → length l.lits < 2;
  some : (l.lits ≡ []) ⊎ (0 < length (left l.words));
}

abbrev pub decreases-loop-lits : goal.decreases-loop-lits
decreases-loop-lits l = length (left l.words)
