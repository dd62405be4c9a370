use Rattle.std.proofs.Common.{◌≡◌, true, ◌++◌, take}
use Rattle.texts.specs.Names.{are_distinct}
use Rattle.link_tops.specs.Clashes.{port_names}
use Rattle.link_tops.proofs.clashes.add_ports.Given as goal

abbrev pub invariant-loop-k : goal.invariant-loop-k
invariant-loop-k l = record {
  ok : l.names ≡ l.fn.names ++ port_names (take l.k l.ports);
  distinct : are_distinct l.fn.names ≡ true → are_distinct l.names ≡ true;
}
