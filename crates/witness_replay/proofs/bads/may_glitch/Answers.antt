use Rattle.witness_replay.proofs.Deciding.{glitch_decided}
use Rattle.witness_replay.proofs.bads.may_glitch.Goals as goal

pub returns-clause-means : goal.returns-clause-means
returns-clause-means c =
    glitch_decided c.args.design.now c.args.claim.now c.args.cycle.now c.capture3-captured.result c.is_unknown.result
    c.capture3-captured.ensures.ternary c.capture3-captured.ensures.only c.is_unknown.ensures
