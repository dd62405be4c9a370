use Rattle.std.proofs.Common.{take}
use Rattle.assist_text.specs.Named.{AreNamed}
use Rattle.assist_text.proofs.names.assist_clauses.Given as goal

abbrev pub invariant-loop-clause : goal.invariant-loop-clause
invariant-loop-clause l = AreNamed l.names.cells (take l.clause-index l.assist.clauses) l.clauses
