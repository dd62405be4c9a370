use Rattle.net_model.proofs.Holding.{held_never_toggles, held_holds}
use Rattle.net_model.proofs.laws.held_start.Goals as goal

pub returns : goal.returns
returns c =
    record {
      never = λ edge run t stale is. held_never_toggles c.args.design.now edge c.args.claim.now.start run t stale c.requires is;
      holds = held_holds c.args.design.now c.args.claim.now c.requires;
    }
