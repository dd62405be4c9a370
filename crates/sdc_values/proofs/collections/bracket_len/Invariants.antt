use Rattle.std.proofs.Common.{◌≡◌, ◌≤◌, drop}
use Rattle.sdc_values.specs.Collections.{after_bracket}
use Rattle.sdc_values.proofs.collections.bracket_len.Given as goal

abbrev pub invariant-loop-place : goal.invariant-loop-place
invariant-loop-place l = (l.depth ≤ l.place) × (after_bracket 0 l.words ≡ after_bracket l.depth (drop l.place l.words))
