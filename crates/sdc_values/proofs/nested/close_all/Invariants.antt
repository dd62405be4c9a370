use Rattle.std.proofs.Common.{◌≡◌, ◌<◌, ◌≤◌, ◌+◌, ◌-◌, ◌^◌, ℕ, length, drop}
use Rattle.sdc_values.specs.Nested.{lists_at, lists_from}
use Rattle.sdc_values.proofs.nested.close_all.Given as goal

abbrev pub invariant-words : goal.invariant-words
invariant-words l = record {
  within : l.place ≤ length l.words;
  few : l.joined.opened + (length l.words - l.place) < 2 ^ 64;
  told : (m : ℕ) × (length l.words - l.place < m)
      × (lists_at l.scene.nesting l.scene.vars.now l.scene.line l.scene.place l.fn.joined l.words
      ≡ lists_from m l.scene.nesting l.scene.vars.now l.scene.line l.scene.place l.joined (drop l.place l.words));
}

abbrev pub decreases-words : goal.decreases-words
decreases-words l = length l.words - l.place
