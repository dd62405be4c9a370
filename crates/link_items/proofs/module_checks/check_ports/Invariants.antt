use Rattle.std.proofs.Common.{All, take}
use Rattle.link_items.specs.Fine.{IsFinePort}
use Rattle.link_items.proofs.module_checks.check_ports.Given as goal

abbrev pub invariant-loop-k : goal.invariant-loop-k
invariant-loop-k l = All (IsFinePort l.conns) (take l.k l.body.ports)
