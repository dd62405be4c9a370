use Rattle.std.proofs.Common.{arith, ap, ◌∙◌}
use Rattle.std.proofs.lemmas.List.{get_or_read}
use Rattle.proof_log.specs.Clauses.{is_set}
use Rattle.proof_log.proofs.Members.{is_set-at}
use Rattle.sat_solver.proofs.propagation.Queue.add_clause.Goals as goal

pub watch-requires-clause-first_low : goal.watch-requires-clause-first_low
watch-requires-clause-first_low c =
    let low = c.requires.low c.index-lits-0.result (ap (is_set c.args.lits.now)
    (get_or_read c.args.lits.now 0 c.index-lits-0.result (omega arith) c.index-lits-0.is 0) ∙ is_set-at c.args.lits.now 0 (omega arith)) in
    omega (arith, low, c.in_ok-provide.ensures.more.limit)

pub watch-requires-clause-second_low : goal.watch-requires-clause-second_low
watch-requires-clause-second_low c =
    let low = c.requires.low c.index-lits-1.result (ap (is_set c.args.lits.now)
    (get_or_read c.args.lits.now 1 c.index-lits-1.result (omega arith) c.index-lits-1.is 0) ∙ is_set-at c.args.lits.now 1 (omega arith)) in
    omega (arith, low, c.in_ok-provide.ensures.more.limit)
