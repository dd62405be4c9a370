use Rattle.std.proofs.Common.{List, subst, sym}
use Rattle.net_model.specs.declared.invariants.InvClause.{InvClause}
use Rattle.drawn_runs.specs.Stretches.{IsThinned, All_left}
use Rattle.drawn_runs.proofs.Stretching.{thinned_more}
use Rattle.drawn_runs.proofs.thinning.thinned.Goals as goal

pub loop-t-init : goal.loop-t-init
loop-t-init c =
    record {
      at = c.in_ok-sim.ensures;
      ready = c.in_ok-stretches.ensures;
      thinned =
          subst (λ (left : List InvClause). IsThinned c.args.design.now c.args.depth c.args.clauses left) (sym c.clauses.view_is) All_left;
    }

pub loop-t-preserved : goal.loop-t-preserved
loop-t-preserved c =
    record {
      at = c.in_ok-step.ensures c.loop-t.t c.settle.ensures;
      ready = c.in_ok-left.ensures.ready;
      thinned =
          thinned_more c.args.design.now c.args.depth c.args.clauses c.loop-t.left c.in_ok-left.left c.loop-t.invariant.thinned
          c.in_ok-left.ensures.thinned;
    }
