use Rattle.cert_defs.proofs.Justifying.{found_complete, found_accepted}
use Rattle.cert_defs.proofs.laws.justified_are_accepted.Goals as goal

pub returns-clause-complete : goal.returns-clause-complete
returns-clause-complete c =
    found_complete c.args.design.now c.args.claims.now c.args.inv.now c.args.limits c.args.verdicts.now c.requires.proved c.requires.right c.requires.shallow
    c.requires.few

pub returns-clause-accepted : goal.returns-clause-accepted
returns-clause-accepted c =
    found_accepted c.args.design.now c.args.claims.now c.args.inv.now c.args.limits c.args.verdicts.now c.requires.names c.requires.proved c.requires.right
