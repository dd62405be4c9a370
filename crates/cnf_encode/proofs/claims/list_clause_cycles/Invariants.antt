use Rattle.std.specs.Prelude.{flat_map}
use Rattle.query_model.specs.Keys.{below}
use Rattle.cnf_encode.specs.Coned.{of_cone}
use Rattle.cnf_encode.specs.Listed.{Lists, clause_cycle}
use Rattle.cnf_encode.proofs.claims.list_clause_cycles.Given as goal

abbrev pub invariant-loop-cycle : goal.invariant-loop-cycle
invariant-loop-cycle l = Lists l.frames (flat_map (of_cone clause_cycle l.cone l.cone.live) (below l.cycle)) l.fn.clauses l.clauses
