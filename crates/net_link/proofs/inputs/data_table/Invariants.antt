use Rattle.std.proofs.Common.{◌≡◌, [], take}
use Rattle.texts.specs.Names.{with_names}
use Rattle.link_tops.specs.Clashes.{port_names}
use Rattle.net_link.proofs.inputs.data_table.Given as goal

abbrev pub invariant-loop-k : goal.invariant-loop-k
invariant-loop-k l = l.names ≡ with_names [] (port_names (take l.k l.ports))
