use Rattle.std.proofs.Common.{◌≡◌, ℕ, ◌-◌, ◌≤◌, length, drop}
use Rattle.sdc_values.specs.Lines.{said_words, said_from}
use Rattle.sdc_values.proofs.command_words.said_words.Given as goal

abbrev pub invariant-words : goal.invariant-words
invariant-words l = record {
  within : l.place ≤ length l.words;
  told : (m : ℕ) × (length l.words - l.place ≤ m) × (said_words l.nesting l.vars l.line l.words ≡ said_from m l.nesting l.vars l.line l.said (drop l.place l.words));
}

abbrev pub decreases-words : goal.decreases-words
decreases-words l = length l.words - l.place
