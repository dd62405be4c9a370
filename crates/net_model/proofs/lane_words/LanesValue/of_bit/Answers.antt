use Rattle.std.proofs.Common.{sym, ◌∙◌, ap}
use Rattle.net_model.specs.LaneBits.{in_each_lane}
use Rattle.net_model.proofs.LaneWords.{ones_are, zeros_are, lane_ones}
use Rattle.net_model.proofs.lane_words.LanesValue.of_bit.Goals as goal

pub returns-then-bit-clause-value : goal.returns-then-bit-clause-value
returns-then-bit-clause-value c = ones_are ∙ ap in_each_lane (sym c.if-bit.true)

pub returns-then-bit-clause-lanes : goal.returns-then-bit-clause-lanes
returns-then-bit-clause-lanes c = λ i lt. lane_ones i lt ∙ sym c.if-bit.true

pub returns-else-bit-clause-value : goal.returns-else-bit-clause-value
returns-else-bit-clause-value c = zeros_are ∙ ap in_each_lane (sym c.if-bit.false)
