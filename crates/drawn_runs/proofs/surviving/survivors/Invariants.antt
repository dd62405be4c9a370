use Rattle.drawn_runs.specs.Drawn.{HoldsBelow, FailsDrawn}
use Rattle.drawn_runs.specs.Sims.{IsAt}
use Rattle.drawn_runs.specs.Survivors.{IsSifted}
use Rattle.drawn_runs.proofs.surviving.survivors.Given as goal

abbrev pub invariant-loop-t : goal.invariant-loop-t
invariant-loop-t l = record {
  at : IsAt l.design l.t l.sim;
  sifted : IsSifted (HoldsBelow l.design l.t) (FailsDrawn l.design) l.fn.clauses l.left;
}
