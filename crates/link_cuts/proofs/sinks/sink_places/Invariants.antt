use Rattle.std.proofs.Common.{◌≡◌, take}
use Rattle.std.specs.Prelude.{filter}
use Rattle.link_cuts.specs.Cutting.{is_sink_at}
use Rattle.link_cuts.proofs.sinks.sink_places.Given as goal

abbrev pub invariant-loop-at : goal.invariant-loop-at
invariant-loop-at l = l.sinks ≡ filter (is_sink_at l.rows l.cells) (take l.at-index l.places)
