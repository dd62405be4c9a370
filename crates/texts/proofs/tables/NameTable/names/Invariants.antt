use Rattle.std.proofs.Common.{◌≡◌, map}
use Rattle.texts.proofs.tables.NameTable.names.Given as goal

abbrev pub invariant-loop-name : goal.invariant-loop-name
invariant-loop-name l = l.found.items ≡ map (λ n. n.now) l.yielded
