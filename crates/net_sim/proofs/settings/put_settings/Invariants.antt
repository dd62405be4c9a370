use Rattle.net_sim.proofs.SettingsPut.{SettingsDone}
use Rattle.net_sim.proofs.settings.put_settings.Given as goal

abbrev pub invariant-loop-k : goal.invariant-loop-k
invariant-loop-k l = SettingsDone l.settings l.active l.initial.ins l.ins l.k
