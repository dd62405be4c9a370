use Rattle.drawn_runs.specs.Stretches.{All_left, Fewer_left}
use Rattle.drawn_runs.proofs.thinning.tried_often.Goals as goal

pub tries-init : goal.tries-init
tries-init c = record { ready = c.requires.ready; thinned = All_left }

pub tries-preserved : goal.tries-preserved
tries-preserved c =
    record {
      ready = c.in_ok-left.ensures.ready;
      thinned = Fewer_left c.tries.left c.in_ok-left.left c.tries.invariant.thinned c.in_ok-left.ensures.sifted;
    }
