use Rattle.std.proofs.Common.{◌≡◌, ◌≤◌, ◌++◌, map, drop}
use Rattle.link_defs.specs.CellNames.{cell_names}
use Rattle.net_link.specs.Numbers.{number_in}
use Rattle.net_link.specs.Places.{leaf_at}
use Rattle.net_link.proofs.cells.names_of.Given as goal

abbrev pub invariant-loop-k : goal.invariant-loop-k
invariant-loop-k l = record {
  few : l.reg ≤ l.k;
  left : cell_names (number_in l.n.numbers.now l.n.nets) l.n.sources l.n.tree.now 0 (map (leaf_at l.library l.parts) l.leaves)
      ≡ l.list ++ cell_names (number_in l.n.numbers.now l.n.nets) l.n.sources l.n.tree.now l.reg (drop l.k (map (leaf_at l.library l.parts) l.leaves));
}
