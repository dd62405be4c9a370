use Rattle.std.proofs.lemmas.List.Elements.{All-contains}
use Rattle.net_model.specs.Fits.{NamesRegs}
use Rattle.query_laws.proofs.Claims.{clause_models, clause_answers}
use Rattle.net_model.specs.Queries.{clause_query}
use Rattle.query_laws.proofs.Problems.{numbered_models, numbered_answers}
use Rattle.query_laws.proofs.OneProblem.{one_problem}
use Rattle.query_laws.proofs.laws.clause_laws.Goals as goal

pub returns-clause-models : goal.returns-clause-models
returns-clause-models c coding =
    clause_models coding c.args.design.now c.args.inv.now c.args.clause.now c.args.phase c.args.depth c.requires.sound c.requires.name
    (λ i has. All-contains (NamesRegs c.args.design.now) c.args.inv.now i c.requires.names has)

pub returns-clause-answers : goal.returns-clause-answers
returns-clause-answers c coding =
    clause_answers coding c.args.design.now c.args.inv.now c.args.clause.now c.args.phase c.args.depth c.requires.sound c.requires.name
    (λ i has. All-contains (NamesRegs c.args.design.now) c.args.inv.now i c.requires.names has)

pub returns-clause-numbered_models : goal.returns-clause-numbered_models
returns-clause-numbered_models c coding = numbered_models coding (clause_query c.args.design.now c.args.inv.now c.args.clause.now c.args.phase
    c.args.depth) (clause_models coding c.args.design.now c.args.inv.now c.args.clause.now c.args.phase c.args.depth c.requires.sound c.requires.name
    (λ i has. All-contains (NamesRegs c.args.design.now) c.args.inv.now i c.requires.names has))

pub returns-clause-numbered_answers : goal.returns-clause-numbered_answers
returns-clause-numbered_answers c coding = numbered_answers coding (clause_query c.args.design.now c.args.inv.now c.args.clause.now c.args.phase
    c.args.depth) (clause_answers coding c.args.design.now c.args.inv.now c.args.clause.now c.args.phase c.args.depth c.requires.sound c.requires.name
    (λ i has. All-contains (NamesRegs c.args.design.now) c.args.inv.now i c.requires.names has))

pub returns-clause-one_problem : goal.returns-clause-one_problem
returns-clause-one_problem c coding =
    one_problem coding (clause_query c.args.design.now c.args.inv.now c.args.clause.now c.args.phase c.args.depth) c.requires.sound
