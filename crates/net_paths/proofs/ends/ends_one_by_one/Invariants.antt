use Rattle.std.proofs.Common.{take}
use Rattle.net_model.specs.Paths.{HasPath}
use Rattle.net_paths.specs.Those.{AreThose}
use Rattle.net_paths.proofs.ends.ends_one_by_one.Given as goal

abbrev pub invariant-loop-k : goal.invariant-loop-k
invariant-loop-k l = AreThose (λ end. HasPath l.reach.launch.now.design.now l.reach.launch.now.start.now end l.reach.launch.now.sets.now) (take l.k l.ends) l.found
