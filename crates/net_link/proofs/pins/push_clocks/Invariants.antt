use Rattle.std.proofs.Common.{◌≡◌, ◌++◌, map, take}
use Rattle.link_defs.specs.CellNames.{clock_role}
use Rattle.net_link.proofs.pins.push_clocks.Given as goal

abbrev pub invariant-loop-k : goal.invariant-loop-k
invariant-loop-k l = l.list ≡ l.fn.list ++ map clock_role (take l.k l.pins)
