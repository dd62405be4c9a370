use Rattle.std.proofs.Common.{◌≡◌, ℕ, ◌<◌, ◌-◌, ◌*◌, ◌^◌}
use Rattle.cert_words.proofs.Growing.{low_of, high_of}
use Rattle.cert_words.proofs.numbers.greatest_with.Given as goal

abbrev pub invariant-loop-low : goal.invariant-loop-low
invariant-loop-low l = record {
  some : 0 < l.low;
  few : l.low < 2 ^ 31;
  high_small : l.high < 2 * l.low;
  reach : (k : ℕ) × (l.low ≡ low_of k l.number) × (l.high ≡ high_of k l.number);
}

abbrev pub decreases-loop-low : goal.decreases-loop-low
decreases-loop-low l = 2 ^ 31 - l.low
