use Rattle.std.proofs.Common.{◌≡◌, take}
use Rattle.sdcv_top.proofs.mendables.copied.Given as goal

abbrev pub invariant-loop-port : goal.invariant-loop-port
invariant-loop-port l = l.ports ≡ take l.port-index l.port-items
