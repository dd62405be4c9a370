use Rattle.net_model.proofs.Layered.{LateDone}
use Rattle.net_model.specs.declared.terns.Tern.TheVariants.{Zero}
use Rattle.firm_runs.proofs.late_starts.put_late_reg.Given as goal

abbrev pub invariant-loop-o : goal.invariant-loop-o
invariant-loop-o l = LateDone Zero l.value l.inverted l.outs l.initial.rows l.rows l.o
