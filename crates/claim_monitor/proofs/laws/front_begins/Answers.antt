use Rattle.claim_monitor.proofs.Fronting.{front_begun}
use Rattle.claim_monitor.proofs.laws.front_begins.Goals as goal

pub returns : goal.returns
returns c = front_begun c.args.design.now c.args.claim.now
