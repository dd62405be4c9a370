use Rattle.std.proofs.Common.{length, map}
use Rattle.std.specs.Fmt.{decimal}
use Rattle.cert_words.specs.Numbers.{IsHint}
use Rattle.cert_words.specs.Growth.{Chain}
use Rattle.cert_words.specs.Parts.{left, Passes}
use Rattle.cert_words.proofs.rows.take_hints.Given as goal

abbrev pub invariant-loop-hints : goal.invariant-loop-hints
invariant-loop-hints l = record {
  at : Passes (map decimal l.hints) l.fn.words l.words;
  fit : Chain IsHint (λ h. h) 0 l.hints;
}

abbrev pub decreases-loop-hints : goal.decreases-loop-hints
decreases-loop-hints l = length (left l.words)
