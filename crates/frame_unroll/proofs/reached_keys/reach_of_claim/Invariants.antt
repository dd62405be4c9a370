use Rattle.std.proofs.Common.{◌-◌, ◌^◌}
use Rattle.frame_unroll.specs.Origins.{claim_reads}
use Rattle.frame_unroll.proofs.Reaching.{Reaches}
use Rattle.frame_unroll.proofs.reached_keys.reach_of_claim.Given as goal

abbrev pub invariant-loop-next : goal.invariant-loop-next
invariant-loop-next l = Reaches (claim_reads l.subject.tables.now.coding l.subject.design.now l.subject.claim.now l.subject.moved l.cycles)
    l.initial.found l.found l.next

abbrev pub decreases-loop-next : goal.decreases-loop-next
decreases-loop-next l = 2 ^ 63 - l.next
