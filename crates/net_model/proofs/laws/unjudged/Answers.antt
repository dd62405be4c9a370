use Rattle.net_model.proofs.Holding.{unjudged_never_violated, unjudged_holds}
use Rattle.net_model.proofs.laws.unjudged.Goals as goal

pub returns : goal.returns
returns c =
    record {
      never = λ live run t. unjudged_never_violated live c.args.design.now c.args.claim.now run t c.requires;
      holds = unjudged_holds c.args.design.now c.args.claim.now c.requires;
    }
