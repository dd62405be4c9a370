use Rattle.std.proofs.Common.{take}
use Rattle.std.specs.Io.KnownBytes.{Appends}
use Rattle.solve_cnf.specs.Answers.{literals_text, filled}
use Rattle.solve_cnf.proofs.answers.write_literals.Given as goal

abbrev pub invariant-loop-place : goal.invariant-loop-place
invariant-loop-place g l = Appends (g.W.Write.contents l.fn.out) (g.W.Write.contents l.out) (literals_text (take l.place (filled l.vars l.values)))
