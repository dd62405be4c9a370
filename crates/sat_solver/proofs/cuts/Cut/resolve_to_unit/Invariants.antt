use Rattle.std.proofs.Common.{◌≡◌, ◌+◌, ◌<◌, ◌≤◌, [], length, take, drop}
use Rattle.sat_solver.specs.Cuts.{CutState}
use Rattle.sat_solver.specs.Markings.{Gathered, marked_lits}
use Rattle.sat_solver.proofs.cuts.Cut.resolve_to_unit.Given as goal

-- the literals after that place have been resolved
abbrev pub invariant-loop-self : goal.invariant-loop-self
invariant-loop-self l = record {
  long : length l.marks.stamps ≡ length l.fn.marks.stamps;
  base : l.self.base ≡ l.fn.self.base;
  start : l.self.start ≡ l.fn.self.start;
  from : l.self.start ≤ l.at;
  within : l.at < length l.trail.lits;
  gathered : Gathered l.trail.lits l.self l.marks;
  state : CutState l.clauses (take (l.at + 1) l.trail.lits) [] (drop (l.at + 1) l.trail.lits) (marked_lits l.marks l.trail.lits) l.self.hints.items;
}

abbrev pub decreases-loop-self : goal.decreases-loop-self
decreases-loop-self l = l.at
