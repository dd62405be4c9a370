use Rattle.ternary_sim.proofs.Steady.{violated_too, holds_too}
use Rattle.ternary_sim.proofs.laws.plain_violation_is_hazard.Goals as goal

pub returns-clause-violated : goal.returns-clause-violated
returns-clause-violated c = λ live run t linked v. violated_too c.args.design.now c.args.claim.now live run t c.requires.sound c.requires.fits linked v

pub returns-clause-holds : goal.returns-clause-holds
returns-clause-holds c = λ holds. holds_too c.args.design.now c.args.claim.now c.requires.sound c.requires.fits holds
