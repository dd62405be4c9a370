use Rattle.std.proofs.Common.{◌≡◌, map, take}
use Rattle.query_model.specs.Formula.{state_lit}
use Rattle.frame_unroll.proofs.kept.clause_in.Given as goal

abbrev pub invariant-loop-state : goal.invariant-loop-state
invariant-loop-state l = l.lits ≡ map (state_lit l.design l.cycle) (take l.state-index l.clause.lits)
