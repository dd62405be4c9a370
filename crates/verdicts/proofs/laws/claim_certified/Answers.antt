use Rattle.verdicts.proofs.Certifying.{proved_holds}
use Rattle.verdicts.proofs.laws.claim_certified.Goals as goal

pub returns : goal.returns
returns c =
    proved_holds c.args.coding c.args.design.now c.args.claim.now c.args.kept.now c.args.proof.now c.requires.sound c.requires.fits c.requires.names
    c.requires.met c.requires.proved
