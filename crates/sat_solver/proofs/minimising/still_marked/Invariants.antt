use Rattle.std.proofs.Common.{◌≡◌, ℕ, ◌&&◌, take}
use Rattle.proof_log.specs.Clauses.{is_set}
use Rattle.sat_solver.specs.Markings.{marked_lits}
use Rattle.sat_solver.proofs.minimising.still_marked.Given as goal

-- the marked ones of the literals so far
abbrev pub invariant-loop-l : goal.invariant-loop-l
invariant-loop-l l = (q : ℕ) → is_set l.kept.items q ≡ (is_set (take l.l-index l.lits) q && is_set (marked_lits l.marks l.trail.lits) q)
