use Rattle.std.proofs.Common.{◌≡◌, ◌++◌, map, take}
use Rattle.claim_monitor.specs.Histories.{latch_of}
use Rattle.claim_monitor.proofs.histories.push_latches.Given as goal

abbrev pub invariant-loop-k : goal.invariant-loop-k
invariant-loop-k l = l.latches ≡ l.fn.latches ++ map (latch_of l.is_any) (take l.k l.nexts)
