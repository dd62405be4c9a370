use Rattle.net_link.specs.Nets.{AreMarks}
use Rattle.net_link.proofs.nets.driven_nets.Given as goal

abbrev pub invariant-loop-net : goal.invariant-loop-net
invariant-loop-net l = AreMarks l.made l.net l.marks
