use Rattle.std.specs.Prelude.{flat_map}
use Rattle.query_model.specs.Keys.{below}
use Rattle.cnf_encode.specs.Late.{of_late}
use Rattle.cnf_encode.specs.Listed.{Lists, claim_cycle}
use Rattle.cnf_encode.proofs.claims.list_claim_cycles.Given as goal

abbrev pub invariant-loop-cycle : goal.invariant-loop-cycle
invariant-loop-cycle l = Lists l.frames (flat_map (of_late claim_cycle l.late l.cone.live) (below l.cycle)) l.fn.clauses l.clauses
