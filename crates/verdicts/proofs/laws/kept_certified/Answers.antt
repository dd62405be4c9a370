use Rattle.verdicts.proofs.Certifying.{kept_met}
use Rattle.verdicts.proofs.laws.kept_certified.Goals as goal

pub returns : goal.returns
returns c =
    kept_met c.args.coding c.args.design.now c.args.kept.now c.args.depth c.args.proofs.now c.requires.sound c.requires.names c.requires.proved
