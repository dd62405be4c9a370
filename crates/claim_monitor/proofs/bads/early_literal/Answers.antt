use Rattle.claim_monitor.proofs.Judging.{early_is}
use Rattle.claim_monitor.proofs.bads.early_literal.Goals as goal

pub returns-then-not-claim-clause-tells : goal.returns-then-not-claim-clause-tells
returns-then-not-claim-clause-tells c =
    early_is c.args.graph.now c.args.design.now c.args.claim.now c.args.literals.now c.bit_literal.result c.requires.fits (λ side. cc)
    (c.bit_literal.ensures c.args.graph.now).here

pub returns-clause-tells : goal.returns-clause-tells
returns-clause-tells c =
    early_is c.late_literal.new.graph c.args.design.now c.args.claim.now c.args.literals.now c.in_ok-differs.differs c.requires.fits
    (λ side. c.in_ok-differs.ensures.tells) c.in_ok-differs.ensures.tells.here
