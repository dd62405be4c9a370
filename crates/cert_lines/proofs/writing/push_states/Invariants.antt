use Rattle.std.proofs.Common.{◌≡◌, ◌++◌, map, take}
use Rattle.cert_lines.specs.Kinds.{led, state_word}
use Rattle.cert_lines.proofs.writing.push_states.Given as goal

abbrev pub invariant-loop-lit : goal.invariant-loop-lit
invariant-loop-lit l = l.out.items ≡ l.fn.out.items ++ led (map state_word (take l.lit-index l.lits))
