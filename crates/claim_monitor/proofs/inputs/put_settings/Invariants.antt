use Rattle.claim_monitor.proofs.InputLits.{SettingLitsDone}
use Rattle.claim_monitor.proofs.inputs.put_settings.Given as goal

abbrev pub invariant-loop-k : goal.invariant-loop-k
invariant-loop-k l = SettingLitsDone l.settings l.active l.initial.ins l.ins l.k
