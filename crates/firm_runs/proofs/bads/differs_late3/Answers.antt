use Rattle.firm_runs.proofs.Deciding3.{late_decided}
use Rattle.firm_runs.proofs.bads.differs_late3.Goals as goal

pub returns : goal.returns
returns c =
    late_decided c.args.design.now c.args.claim.now c.args.cycle.now c.args.stale c.in_ok-late.late c.in_ok-captured.captured c.are_apart.result
    c.requires.sound c.requires.fits.end_ c.in_ok-late.ensures c.in_ok-captured.ensures c.are_apart.ensures
