use Rattle.firm_runs.proofs.Firming.{firm_shown}
use Rattle.firm_runs.proofs.laws.shown_firm.Goals as goal

pub returns : goal.returns
returns c =
    λ t shown. firm_shown c.args.design.now c.args.free.now c.args.claim.now c.args.stimulus.now t c.requires.sound c.requires.fits c.requires.lawful shown
