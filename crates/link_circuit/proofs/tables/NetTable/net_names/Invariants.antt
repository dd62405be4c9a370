use Rattle.std.proofs.Common.{◌≡◌, take}
use Rattle.std.specs.Prelude.{flat_map, zip}
use Rattle.link_circuit.specs.Scopes.{kept}
use Rattle.link_circuit.proofs.tables.NetTable.net_names.Given as goal

abbrev pub invariant-loop-k : goal.invariant-loop-k
invariant-loop-k l = l.list ≡ flat_map (kept l.numbers l.count) (take l.k (zip l.self.names l.self.nets))
