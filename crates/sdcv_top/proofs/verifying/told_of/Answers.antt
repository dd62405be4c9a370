use Rattle.sdcv_top.proofs.Telling.{are_witnessed}
use Rattle.sdcv_top.proofs.verifying.told_of.Goals as goal

pub told-requires-clause-as_many : goal.told-requires-clause-as_many
told-requires-clause-as_many c = let (extra, depth, limits, judged) = c.requires.judged in judged.right.as_many

pub told-requires-clause-witnessed : goal.told-requires-clause-witnessed
told-requires-clause-witnessed c =
    let (extra, depth, limits, judged) = c.requires.judged in
    let d = c.args.designed.now in
    are_witnessed d.linked.design d.selected.claims extra depth limits c.args.judged judged
