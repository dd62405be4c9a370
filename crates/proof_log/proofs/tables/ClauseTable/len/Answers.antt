use Rattle.std.proofs.Common.{arith}
use Rattle.proof_log.proofs.StoredClauses.{length-clauses_of}
use Rattle.proof_log.proofs.tables.ClauseTable.len.Goals as goal

pub returns-clause-value : goal.returns-clause-value
returns-clause-value c =
    let e = c.self.inside in
    rw (← c.self.view_is) (omega (arith, length-clauses_of e.lits.items 0 e.ends.items, c.len.ensures, e.ends.ok.0))

pub returns-clause-few : goal.returns-clause-few
returns-clause-few c =
    let e = c.self.inside in
    rw (← c.self.view_is) (omega (arith, length-clauses_of e.lits.items 0 e.ends.items, c.len.ensures, e.ends.ok))
