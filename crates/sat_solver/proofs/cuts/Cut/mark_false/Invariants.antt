use Rattle.std.proofs.Common.{◌≡◌, take, length}
use Rattle.sat_solver.specs.Markings.{Gathered, AreMarked}
use Rattle.sat_solver.proofs.cuts.Cut.mark_false.Given as goal

-- the false literals so far are marked
abbrev pub invariant-loop-l : goal.invariant-loop-l
invariant-loop-l l = record {
  long : length l.marks.stamps ≡ length l.fn.marks.stamps;
  base : l.self.base ≡ l.fn.self.base;
  start : l.self.start ≡ l.fn.self.start;
  hints : l.self.hints ≡ l.fn.self.hints;
  gathered : Gathered l.trail.lits l.self l.marks;
  marked : AreMarked l.trail.lits (take l.l-index l.lits) l.fn.marks l.marks;
}
