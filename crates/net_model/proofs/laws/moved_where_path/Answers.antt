use Rattle.net_model.proofs.Moving.{moved_where_path}
use Rattle.net_model.proofs.laws.moved_where_path.Goals as goal

pub returns : goal.returns
returns c = λ rows are. moved_where_path c.args.design.now c.args.claim.now rows c.requires.sound c.requires.fits.end_ are
