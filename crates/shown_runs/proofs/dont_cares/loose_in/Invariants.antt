use Rattle.std.proofs.Common.{◌≡◌, map}
use Rattle.std.specs.List.{range_with_len}
use Rattle.shown_runs.specs.DontCares.{is_loose}
use Rattle.shown_runs.proofs.dont_cares.loose_in.Given as goal

abbrev pub invariant-loop-input : goal.invariant-loop-input
invariant-loop-input l = l.bits ≡ map (is_loose l.design l.free l.cycle) (range_with_len 0 l.input)
