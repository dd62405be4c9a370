use Rattle.std.proofs.Common.{◌≡◌, ◌<◌}
use Rattle.model_tests.proofs.slow_layers.SlowLayers.+reads.Given as goal

abbrev pub decreases-reads : goal.decreases-reads
decreases-reads l = l.steps

abbrev pub invariant-loop-place : goal.invariant-loop-place
invariant-loop-place l = (0 < l.steps) × (l.steps ≡ l.fn.steps)

abbrev pub invariant-loop-k : goal.invariant-loop-k
invariant-loop-k l = (0 < l.steps) × (l.steps ≡ l.fn.steps)
