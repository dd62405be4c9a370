use Rattle.std.proofs.Common.{◌≡◌, ◌+◌, subst, sym, arith}
use Rattle.std.proofs.lemmas.Grind.{common_steps}
use Rattle.net_model.specs.Queries.{live_of, clause_query}
use Rattle.query_model.specs.Formula.{asked_clauses}
use Rattle.frame_unroll.specs.Framed.{AreWithin}
use Rattle.frame_unroll.proofs.Bounded.{broken_within}
use Rattle.frame_unroll.proofs.asked.clause_asked.Goals as goal

pub returns-clause-within : goal.returns-clause-within
returns-clause-within c =
    let d = c.args.design.now in
    let clause = c.args.clause.now in
    let inv = c.args.inv.now in
    let asked : c.push_broken.new.asked ≡ asked_clauses (clause_query d inv clause c.args.phase c.args.depth) = grind (arith, common_steps) in
    subst (AreWithin d (live_of d c.args.phase + c.args.depth + 1)) (sym asked)
    (broken_within d inv clause c.args.phase c.args.depth c.requires.name c.requires.names)
