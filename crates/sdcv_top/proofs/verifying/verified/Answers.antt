use Rattle.sdcv_top.specs.Headline.{limits_of}
use Rattle.sdcv_top.proofs.verifying.verified.Goals as goal

pub certified-requires-clause-judged : goal.certified-requires-clause-judged
certified-requires-clause-judged g c = (c.args.extra.now, c.args.verifying.now.options.inv_depth, c.in_ok-judged.ensures.judged)

pub told_of-requires-clause-judged : goal.told_of-requires-clause-judged
told_of-requires-clause-judged g c =
    (c.args.extra.now, c.args.verifying.now.options.inv_depth, limits_of c.args.verifying.now.options, c.in_ok-judged.ensures.judged)
