use Rattle.net_model.proofs.LaneWords.{lane_or}
use Rattle.net_model.proofs.lane_words.Lanes.or.Goals as goal

pub returns : goal.returns
returns c = λ i lt. lane_or c.args.self c.args.other i
