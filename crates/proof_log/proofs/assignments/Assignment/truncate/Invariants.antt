use Rattle.std.proofs.Common.{◌≡◌, take, length, ◌≤◌, min}
use Rattle.proof_log.proofs.assignments.Assignment.truncate.Given as goal

abbrev pub invariant-loop-self : goal.invariant-loop-self
invariant-loop-self l = record {
  vars : l.self.vars ≡ l.fn.self.vars;
  lits : l.self.lits ≡ take (length l.self.lits) l.fn.self.lits;
  within : length l.self.lits ≤ length l.fn.self.lits;
  above : min l.len (length l.fn.self.lits) ≤ length l.self.lits;
}

abbrev pub decreases-loop-self : goal.decreases-loop-self
decreases-loop-self l = length l.self.lits
