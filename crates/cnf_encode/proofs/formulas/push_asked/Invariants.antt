use Rattle.std.proofs.Common.{take}
use Rattle.cnf_encode.specs.Coded.{Adds}
use Rattle.cnf_encode.proofs.formulas.push_asked.Given as goal

abbrev pub invariant-loop-k : goal.invariant-loop-k
invariant-loop-k l = Adds l.frames (take l.k l.asked) l.fn.clauses l.clauses
