use Rattle.net_link.specs.Rows.{AreEnabled}
use Rattle.net_link.proofs.rows.enabled_numbers.Given as goal

abbrev pub invariant-loop-net : goal.invariant-loop-net
invariant-loop-net l = AreEnabled l.nets l.numbers l.row l.net l.list
