use Rattle.std.proofs.Common.{◌≡◌, ◌∷◌, length, map, take}
use Rattle.answer_lines.specs.Certs.{accepted_line, pair_line}
use Rattle.answer_lines.specs.Texts.{bytes_of_lines}
use Rattle.answer_lines.proofs.certs.accepted_lines.Given as goal

abbrev pub invariant-loop-number : goal.invariant-loop-number
invariant-loop-number l = bytes_of_lines l.lines.items ≡ accepted_line (length l.numbers) l.pairs ∷ map pair_line (take l.number-index l.numbers)
