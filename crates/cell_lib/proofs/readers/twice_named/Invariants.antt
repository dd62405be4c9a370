use Rattle.std.proofs.Common.{◌≡◌, true, take}
use Rattle.texts.specs.Names.{are_distinct}
use Rattle.cell_lib.specs.Texts.{names}
use Rattle.cell_lib.proofs.readers.twice_named.Given as goal

abbrev pub invariant-loop-group : goal.invariant-loop-group
invariant-loop-group l = record {
  table : l.table ≡ names (take l.group-index l.groups);
  distinct : are_distinct l.table ≡ true;
}
