use Rattle.std.proofs.Common.{◌≡◌, map, take}
use Rattle.texts.specs.Names.{with_names, are_new}
use Rattle.texts.proofs.tables.NameTable.add_all.Given as goal

abbrev pub invariant-loop-one : goal.invariant-loop-one
invariant-loop-one g l = record {
  table : l.self ≡ with_names l.fn.self (map g.T.Named.named (take l.one-index l.these));
  fresh : l.fresh ≡ are_new l.fn.self (map g.T.Named.named (take l.one-index l.these));
}
