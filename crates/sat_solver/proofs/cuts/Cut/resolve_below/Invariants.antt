use Rattle.std.proofs.Common.{◌≡◌, ◌≤◌, length}
use Rattle.sat_solver.specs.Markings.{Gathered, marked_lits}
use Rattle.sat_solver.proofs.Cutting.{BelowState}
use Rattle.sat_solver.proofs.cuts.Cut.resolve_below.Given as goal

-- the literals from that place to the base have been resolved
abbrev pub invariant-loop-at : goal.invariant-loop-at
invariant-loop-at l = record {
  long : length l.marks.stamps ≡ length l.fn.marks.stamps;
  base : l.self.base ≡ l.fn.self.base;
  start : l.self.start ≡ l.fn.self.start;
  within : l.at ≤ l.self.base;
  gathered : Gathered l.trail.lits l.self l.marks;
  state : BelowState l.clauses l.trail.lits l.fn.self.base l.at (marked_lits l.fn.marks l.trail.lits) l.fn.self.hints.items
      (marked_lits l.marks l.trail.lits) l.self.hints.items;
}

abbrev pub decreases-loop-at : goal.decreases-loop-at
decreases-loop-at l = l.at
