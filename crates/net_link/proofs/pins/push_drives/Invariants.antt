use Rattle.std.proofs.Common.{◌≡◌, ◌++◌, map, take}
use Rattle.std.specs.Prelude.{zip}
use Rattle.net_link.specs.Places.{drive_role}
use Rattle.net_link.proofs.pins.push_drives.Given as goal

abbrev pub invariant-loop-k : goal.invariant-loop-k
invariant-loop-k l = l.list ≡ l.fn.list ++ map drive_role (take l.k (zip l.names l.nets))
