use Rattle.std.proofs.Common.{◌≡◌, take, option_to_list}
use Rattle.proof_log.specs.Clauses.{open_literals}
use Rattle.proof_log.proofs.effects.LitSet.effect.Given as goal

-- the literals so far that are not false
abbrev pub invariant-loop-l : goal.invariant-loop-l
invariant-loop-l g l = open_literals (g.Self.LitSet.lits l.self) (take l.l-index l.clause) ≡ option_to_list l.open
