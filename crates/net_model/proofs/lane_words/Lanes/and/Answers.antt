use Rattle.net_model.proofs.LaneWords.{lane_and}
use Rattle.net_model.proofs.lane_words.Lanes.and.Goals as goal

pub returns : goal.returns
returns c = λ i lt. lane_and c.args.self c.args.other i
