use Rattle.cert_defs.proofs.Holding.{hold_each}
use Rattle.cert_defs.proofs.laws.accepted_hold.Goals as goal

pub returns : goal.returns
returns c =
    hold_each c.args.coding c.args.design.now c.args.claims.now c.args.cert.now c.args.numbers.now c.requires.sound c.requires.fit c.requires.accepted
