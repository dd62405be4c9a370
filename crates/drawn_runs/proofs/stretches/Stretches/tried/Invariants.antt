use Rattle.drawn_runs.specs.Stretches.{AreStretchesTo}
use Rattle.drawn_runs.proofs.stretches.Stretches.tried.Given as goal

abbrev pub invariant-cycles : goal.invariant-cycles
invariant-cycles l = AreStretchesTo l.design l.fn.clauses l.counter l.self
