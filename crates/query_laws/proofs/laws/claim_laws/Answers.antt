use Rattle.std.proofs.lemmas.List.Elements.{All-contains}
use Rattle.net_model.specs.Fits.{NamesRegs}
use Rattle.query_laws.proofs.Claims.{claim_models, claim_answers}
use Rattle.net_model.specs.Queries.{claim_query}
use Rattle.query_laws.proofs.Problems.{numbered_models, numbered_answers}
use Rattle.query_laws.proofs.OneProblem.{one_problem}
use Rattle.query_laws.proofs.Railed.{claim_rails, numbered_rails}
use Rattle.query_laws.proofs.laws.claim_laws.Goals as goal

pub returns-clause-models : goal.returns-clause-models
returns-clause-models c coding =
    claim_models coding c.args.design.now c.args.claim.now c.args.phase c.args.depth c.args.inv.now c.requires.sound c.requires.fits
    (λ i has. All-contains (NamesRegs c.args.design.now) c.args.inv.now i c.requires.names has)

pub returns-clause-answers : goal.returns-clause-answers
returns-clause-answers c coding =
    claim_answers coding c.args.design.now c.args.claim.now c.args.phase c.args.depth c.args.inv.now c.requires.sound c.requires.fits
    (λ i has. All-contains (NamesRegs c.args.design.now) c.args.inv.now i c.requires.names has)

pub returns-clause-numbered_models : goal.returns-clause-numbered_models
returns-clause-numbered_models c coding = numbered_models coding (claim_query c.args.design.now c.args.claim.now c.args.phase c.args.depth
    c.args.inv.now) (claim_models coding c.args.design.now c.args.claim.now c.args.phase c.args.depth c.args.inv.now c.requires.sound c.requires.fits
    (λ i has. All-contains (NamesRegs c.args.design.now) c.args.inv.now i c.requires.names has))

pub returns-clause-numbered_answers : goal.returns-clause-numbered_answers
returns-clause-numbered_answers c coding = numbered_answers coding (claim_query c.args.design.now c.args.claim.now c.args.phase c.args.depth
    c.args.inv.now) (claim_answers coding c.args.design.now c.args.claim.now c.args.phase c.args.depth c.args.inv.now c.requires.sound c.requires.fits
    (λ i has. All-contains (NamesRegs c.args.design.now) c.args.inv.now i c.requires.names has))

pub returns-clause-rails : goal.returns-clause-rails
returns-clause-rails c hazard coding =
    claim_rails coding c.args.design.now c.args.claim.now c.args.phase c.args.depth c.args.inv.now c.requires.sound c.requires.fits hazard

pub returns-clause-numbered_rails : goal.returns-clause-numbered_rails
returns-clause-numbered_rails c hazard coding =
    numbered_rails coding c.args.claim.now (claim_query c.args.design.now c.args.claim.now c.args.phase c.args.depth c.args.inv.now)
    (claim_rails coding c.args.design.now c.args.claim.now c.args.phase c.args.depth c.args.inv.now c.requires.sound c.requires.fits hazard)

pub returns-clause-one_problem : goal.returns-clause-one_problem
returns-clause-one_problem c coding =
    one_problem coding (claim_query c.args.design.now c.args.claim.now c.args.phase c.args.depth c.args.inv.now) c.requires.sound
