use Rattle.std.proofs.Common.{◌≡◌}
use Rattle.net_model.specs.Held.{free_below}
use Rattle.claim_monitor.proofs.InputLits.{FreeDone}
use Rattle.claim_monitor.proofs.inputs.put_free.Given as goal

abbrev pub invariant-loop-input : goal.invariant-loop-input
invariant-loop-input l = record {
  place : l.place ≡ free_below l.design l.input;
  done : FreeDone l.graph l.design l.ins l.input;
}
