use Rattle.drawn_runs.specs.Sims.{IsAt}
use Rattle.drawn_runs.specs.Stretches.{IsReady, IsThinned}
use Rattle.drawn_runs.proofs.thinning.thinned.Given as goal

abbrev pub invariant-loop-t : goal.invariant-loop-t
invariant-loop-t l = record {
  at : IsAt l.design l.t l.sim;
  ready : IsReady l.design l.stretches;
  thinned : IsThinned l.design l.depth l.fn.clauses l.left;
}
