use Rattle.claim_monitor.proofs.NetLits.{InputNetsDone}
use Rattle.claim_monitor.proofs.nets.put_inputs.Given as goal

abbrev pub invariant-loop-input : goal.invariant-loop-input
invariant-loop-input l = InputNetsDone l.design l.ins l.initial.nets l.nets l.input
