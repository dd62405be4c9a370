use Rattle.std.proofs.Common.{map}
use Rattle.query_model.specs.Keys.{below}
use Rattle.cnf_encode.specs.Listed.{Lists}
use Rattle.query_model.specs.Defined.{stale_definition}
use Rattle.cnf_encode.proofs.points.list_stales.Given as goal

abbrev pub invariant-loop-r : goal.invariant-loop-r
invariant-loop-r l = Lists l.frames (map (stale_definition l.subject.design.now l.subject.claim.now.start l.cycle) (below l.r)) l.fn.clauses l.clauses
