use Rattle.net_sim.proofs.SettingsPut.{SetBelow}
use Rattle.net_sim.proofs.settings.are_set.Given as goal

abbrev pub invariant-loop-k : goal.invariant-loop-k
invariant-loop-k l = SetBelow l.settings l.active l.ins l.k
