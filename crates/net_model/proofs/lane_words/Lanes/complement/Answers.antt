use Rattle.std.proofs.Common.{arith}
use Rattle.net_model.proofs.LaneWords.{lane_not}
use Rattle.net_model.proofs.lane_words.Lanes.complement.Goals as goal

pub returns : goal.returns
returns c = λ i lt. lane_not c.args.self i (omega arith) lt
