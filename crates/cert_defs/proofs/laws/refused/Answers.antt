use Rattle.cert_defs.proofs.Refusing.{not_accepted}
use Rattle.cert_defs.proofs.laws.refused.Goals as goal

pub returns : goal.returns
returns c numbers accepts =
    not_accepted c.args.coding c.args.design.now c.args.claims.now c.args.cert.now c.args.fault.now c.requires.sound c.requires.told c.requires.cause
    accepts.accepted
