use Rattle.proof_log.proofs.Assigning.{few_set}
use Rattle.proof_log.proofs.assignments.Assignment.len.Goals as goal

pub returns-clause-few : goal.returns-clause-few
returns-clause-few c = rw (← c.self.view_is) (few_set _ _ c.self.inside.marks.items _ c.self.invariant)
