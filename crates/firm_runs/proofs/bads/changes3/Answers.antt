use Rattle.firm_runs.proofs.Deciding3.{change_decided}
use Rattle.firm_runs.proofs.bads.changes3.Goals as goal

pub returns : goal.returns
returns c =
    change_decided c.args.design.now c.args.claim.now c.args.before.now c.args.cycle.now c.in_ok-captured.captured c.in_ok-earlier.earlier
    c.are_apart.result c.in_ok-captured.ensures c.in_ok-earlier.ensures c.are_apart.ensures
