use Rattle.std.proofs.Common.{◌≡◌, ◌<◌, All, length, vec_len}
use Rattle.sat_solver.specs.Cuts.{KeepsAsserting}
use Rattle.sat_solver.specs.Markings.{marked_lits, AreFewer}
use Rattle.sat_solver.proofs.minimising.drop_covered.Given as goal

-- what was an asserting cut still is one
abbrev pub invariant-loop-place : goal.invariant-loop-place
invariant-loop-place l = record {
  long : length l.marks.stamps ≡ length l.fn.marks.stamps;
  base : l.cut.base ≡ l.fn.cut.base;
  start : l.cut.start ≡ l.fn.cut.start;
  lits : l.cut.lits ≡ l.fn.cut.lits;
  before : All (λ n. n < l.fn.cut.start) l.places.items;
  fewer : AreFewer l.fn.marks l.marks;
  asserting : KeepsAsserting l.clauses l.trail.lits l.fn.cut.base l.fn.cut.start (marked_lits l.fn.marks l.trail.lits) l.fn.cut.hints.items
      (marked_lits l.marks l.trail.lits) l.cut.hints.items;
}

abbrev pub decreases-loop-place : goal.decreases-loop-place
decreases-loop-place l = vec_len l.places
