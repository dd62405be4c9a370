use Rattle.std.proofs.Common.{◌≡◌, length, take}
use Rattle.link_circuit.specs.Scopes.{IsTableOf}
use Rattle.net_link.specs.Nets.{names_in}
use Rattle.net_link.proofs.nets.name_table.Given as goal

abbrev pub invariant-loop-k : goal.invariant-loop-k
invariant-loop-k l = record {
  len : length l.table.nets ≡ length l.table.names;
  so_far : IsTableOf l.marks (names_in l.netlist.source.now (take l.k l.scopes)) l.table.names l.table.nets;
}
