use Rattle.std.proofs.Common.{◌≡◌, ◌≤◌, ◌-◌, ℕ, length, drop}
use Rattle.lib_words.specs.Values.{value_len, value_from}
use Rattle.lib_words.proofs.values.value_len.Given as goal

abbrev pub invariant-pieces : goal.invariant-pieces
invariant-pieces l = record {
  within : l.len ≤ length l.text;
  told : (m : ℕ) × (length l.text - l.len ≤ m) × (value_len l.text ≡ value_from m l.len (drop l.len l.text));
}

abbrev pub decreases-pieces : goal.decreases-pieces
decreases-pieces l = length l.text - l.len
