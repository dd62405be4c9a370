use Rattle.std.proofs.Common.{◌≡◌}
use Rattle.net_model.specs.Held.{free_below}
use Rattle.claim_monitor.proofs.sizes.free_inputs.Given as goal

abbrev pub invariant-loop-input : goal.invariant-loop-input
invariant-loop-input l = l.count ≡ free_below l.design l.input
