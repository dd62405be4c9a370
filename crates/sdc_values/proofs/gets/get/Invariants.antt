use Rattle.std.proofs.Common.{◌≡◌, ◌<◌, ◌-◌, ℕ, length, drop}
use Rattle.sdc_values.specs.Gets.{get_at, get_from}
use Rattle.sdc_values.proofs.gets.get.Given as goal

abbrev pub invariant-loop-place : goal.invariant-loop-place
invariant-loop-place l = (m : ℕ) × (length l.words - l.place < m)
    × (get_at l.scene.nesting l.scene.vars.now l.scene.line l.scene.place l.own l.class l.words
    ≡ get_from m l.scene.nesting l.scene.vars.now l.scene.line l.scene.place l.own l.class l.asking (drop l.place l.words))
