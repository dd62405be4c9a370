use Rattle.std.proofs.Common.{◌≡◌, ℕ, ◌<◌, ◌≤◌, true, slice_index}
use Rattle.proof_log.specs.Literals.{lit_var}
use Rattle.proof_log.specs.Clauses.{is_set}
use Rattle.sat_solver.proofs.activities.Activities.release.Given as goal

-- who waited waits, and so do the variables of the literals so far
abbrev pub invariant-loop-place : goal.invariant-loop-place
invariant-loop-place l = record {
  vars : l.self.waiting.vars ≡ l.fn.self.waiting.vars;
  keeps : (v : ℕ) → is_set l.fn.self.waiting.inside v ≡ true → is_set l.self.waiting.inside v ≡ true;
  back : (i : ℕ) → l.from ≤ i → i < l.place → is_set l.self.waiting.inside (lit_var (slice_index l.trail.lits i)) ≡ true;
}
