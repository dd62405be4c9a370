use Rattle.std.proofs.Common.{◌≡◌, ℕ, ◌-◌, ◌≤◌, length, drop}
use Rattle.sdc_text.specs.Delays.{bare, delay_from}
use Rattle.sdc_text.proofs.delays.take_words.Given as goal

abbrev pub invariant-words : goal.invariant-words
invariant-words l = record {
  within : l.place ≤ length l.words;
  told : (m : ℕ) × (length l.words - l.place ≤ m)
      × (delay_from (length l.words) l.vars l.line bare l.words ≡ delay_from m l.vars l.line l.reading (drop l.place l.words));
}

abbrev pub decreases-words : goal.decreases-words
decreases-words l = length l.words - l.place
