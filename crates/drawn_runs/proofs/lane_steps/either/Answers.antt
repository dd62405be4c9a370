use Rattle.net_model.proofs.LaneWords.{lane_or}
use Rattle.drawn_runs.proofs.lane_steps.either.Goals as goal

pub returns : goal.returns
returns c = λ i lt. lane_or c.args.a c.args.b i
