use Rattle.witness_replay.proofs.Deciding.{late_decided}
use Rattle.witness_replay.proofs.bads.differs_late.Goals as goal

pub returns-clause-means : goal.returns-clause-means
returns-clause-means c =
    late_decided c.args.design.now c.args.claim.now c.args.cycle.now c.args.stale c.layer_capture-late.result c.capture.result
    c.layer_capture-late.ensures.late c.layer_capture-late.ensures.only c.capture.ensures
