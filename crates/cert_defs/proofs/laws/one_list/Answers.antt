use Rattle.cert_defs.proofs.Holding.{one_list}
use Rattle.cert_defs.proofs.laws.one_list.Goals as goal

pub returns : goal.returns
returns c =
    one_list c.args.coding c.args.design.now c.args.claims.now c.args.cert.now c.args.one.now c.args.other.now c.requires.one c.requires.other
