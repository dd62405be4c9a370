use Rattle.std.proofs.Common.{◌≡◌, take}
use Rattle.cell_types.specs.Builtin.{letters}
use Rattle.cell_types.proofs.builtin_parts.named.Given as goal

abbrev pub invariant-loop-letter : goal.invariant-loop-letter
invariant-loop-letter l = l.names ≡ letters (take l.letter-index l.letter-items)
