use Rattle.net_model.proofs.Flipped.{late_by_flip}
use Rattle.net_model.proofs.laws.late_by_flip.Goals as goal

pub returns : goal.returns
returns c = late_by_flip c.args.design.now c.args.claim.now c.requires.sound c.requires.fits.start c.requires.fits.end_
