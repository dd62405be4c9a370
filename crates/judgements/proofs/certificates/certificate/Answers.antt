use Rattle.judgements.proofs.Verdicts.{kept_proved}
use Rattle.judgements.proofs.certificates.certificate.Goals as goal

pub written_is_accepted-requires-clause-proved : goal.written_is_accepted-requires-clause-proved
written_is_accepted-requires-clause-proved c =
    kept_proved c.args.design.now c.args.claims.now c.requires.judged.0 c.requires.judged.1 c.args.limits.now.budget c.args.judged.now.inv
    c.requires.judged.2.invariants
