use Rattle.std.proofs.Common.{◌-◌, ◌^◌}
use Rattle.frame_unroll.specs.Origins.{clause_reads}
use Rattle.frame_unroll.proofs.Reaching.{Reaches}
use Rattle.frame_unroll.proofs.reached_keys.reach_of_clause.Given as goal

abbrev pub invariant-loop-next : goal.invariant-loop-next
invariant-loop-next l = Reaches (clause_reads l.tables.coding l.tables.design l.cycles) l.initial.found l.found l.next

abbrev pub decreases-loop-next : goal.decreases-loop-next
decreases-loop-next l = 2 ^ 63 - l.next
