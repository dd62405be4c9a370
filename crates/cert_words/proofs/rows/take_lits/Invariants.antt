use Rattle.std.proofs.Common.{◌≡◌, length, map}
use Rattle.proof_log.specs.Literals.{lit_var}
use Rattle.cert_words.specs.Numbers.{lit_word, IsLitAbove}
use Rattle.cert_words.specs.Growth.{Chain}
use Rattle.cert_words.specs.Parts.{left, Passes}
use Rattle.cert_words.proofs.RowLemmas.{last_key}
use Rattle.cert_words.proofs.rows.take_lits.Given as goal

abbrev pub invariant-loop-lits : goal.invariant-loop-lits
invariant-loop-lits l = record {
  at : Passes (map lit_word l.lits) l.fn.words l.words;
  fit : Chain IsLitAbove lit_var 0 l.lits;
  above : l.above ≡ last_key lit_var 0 l.lits;
}

abbrev pub decreases-loop-lits : goal.decreases-loop-lits
decreases-loop-lits l = length (left l.words)
