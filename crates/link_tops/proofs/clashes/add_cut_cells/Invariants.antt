use Rattle.std.proofs.Common.{◌≡◌, true, ◌++◌, take}
use Rattle.texts.specs.Names.{are_distinct}
use Rattle.link_tops.specs.Clashes.{cut_names}
use Rattle.link_tops.proofs.clashes.add_cut_cells.Given as goal

abbrev pub invariant-loop-k : goal.invariant-loop-k
invariant-loop-k l = record {
  ok : l.names ≡ l.fn.names ++ cut_names (take l.k l.cells);
  distinct : are_distinct l.fn.names ≡ true → are_distinct l.names ≡ true;
}
