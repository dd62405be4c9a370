use Rattle.std.proofs.Common.{◌≡◌, ℕ, List, ◌++◌, length, take}
use Rattle.link_circuit.specs.Scopes.{named, IsTableOf}
use Rattle.link_circuit.proofs.tables.NetTable.add_scope.Given as goal

abbrev pub invariant-loop-k : goal.invariant-loop-k
invariant-loop-k l = record {
  len : length l.self.nets ≡ length l.self.names;
  so_far : (pairs : List (List ℕ × ℕ)) → IsTableOf l.marks pairs l.fn.self.names l.fn.self.nets
      → IsTableOf l.marks (pairs ++ take l.k (named l.prefix l.names l.nets)) l.self.names l.self.nets;
}
