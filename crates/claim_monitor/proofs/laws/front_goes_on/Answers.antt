use Rattle.claim_monitor.proofs.Fronting.{front_goes_on}
use Rattle.claim_monitor.proofs.laws.front_goes_on.Goals as goal

pub returns : goal.returns
returns c = front_goes_on c.args.design.now c.args.claim.now
