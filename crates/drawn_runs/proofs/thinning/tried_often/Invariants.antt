use Rattle.drawn_runs.specs.Stretches.{IsReady, IsThinned}
use Rattle.drawn_runs.proofs.thinning.tried_often.Given as goal

abbrev pub invariant-tries : goal.invariant-tries
invariant-tries l = record {
  ready : IsReady l.design l.stretches;
  thinned : IsThinned l.design l.depth l.fn.clauses l.left;
}
