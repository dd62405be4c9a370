use Rattle.net_model.proofs.LaneWords.{lane_xor}
use Rattle.net_model.proofs.lane_words.Lanes.xor.Goals as goal

pub returns : goal.returns
returns c = λ i lt. lane_xor c.args.self c.args.other i
