use Rattle.mcp_detect.proofs.Trying.{AreFoundUpTo}
use Rattle.mcp_detect.proofs.tries.largest_of.Given as goal

abbrev pub invariant-loop-k : goal.invariant-loop-k
invariant-loop-k l = AreFoundUpTo l.design l.options l.inv.kept l.claim l.k
