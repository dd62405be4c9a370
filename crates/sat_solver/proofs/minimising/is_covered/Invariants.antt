use Rattle.std.proofs.Common.{◌≡◌, ℕ, true, take}
use Rattle.proof_log.specs.Clauses.{is_set}
use Rattle.sat_solver.specs.Markings.{marked_lits}
use Rattle.sat_solver.proofs.minimising.is_covered.Given as goal

-- of the literals so far the others are in the cut
abbrev pub invariant-loop-q : goal.invariant-loop-q
invariant-loop-q l = record {
  has : l.has ≡ is_set (take l.q-index l.clause) l.p;
  others : (q : ℕ) → is_set (take l.q-index l.clause) q ≡ true → (q ≡ l.p → ⊥) → is_set (marked_lits l.marks l.trail.lits) q ≡ true;
}
