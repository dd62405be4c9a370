use Rattle.std.proofs.Common.{◌≡◌, ◌++◌, take}
use Rattle.sdc_objects.proofs.tables.add_copies.Given as goal

abbrev pub invariant-loop-k : goal.invariant-loop-k
invariant-loop-k l = l.ports ≡ l.fn.ports ++ take l.k l.more
