use Rattle.net_model.proofs.LaneWords.{lane_and}
use Rattle.drawn_runs.proofs.lane_steps.both.Goals as goal

pub returns : goal.returns
returns c = λ i lt. lane_and c.args.a c.args.b i
