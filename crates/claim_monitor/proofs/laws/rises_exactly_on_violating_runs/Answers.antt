use Rattle.claim_monitor.proofs.Rising.{rises_where_violated, never_rises, holds_where_low}
use Rattle.claim_monitor.proofs.laws.rises_exactly_on_violating_runs.Goals as goal

pub returns-clause-violates : goal.returns-clause-violates
returns-clause-violates c =
    λ run any ins is bits. rises_where_violated c.args.design.now c.args.claim.now c.args.aig.now run any ins c.requires.watches is bits

pub returns-clause-holds : goal.returns-clause-holds
returns-clause-holds c = (
  holds_where_low c.args.design.now c.args.claim.now c.args.aig.now c.requires.watches,
  never_rises c.args.design.now c.args.claim.now c.args.aig.now c.requires.sound c.requires.watches,
)
