use Rattle.std.proofs.Common.{◌≡◌, take}
use Rattle.std.specs.List.{flat_map}
use Rattle.sdc_settings.specs.Inputs.{port_places}
use Rattle.sdc_settings.proofs.sources.source_places.Given as goal

abbrev pub invariant-loop-k : goal.invariant-loop-k
invariant-loop-k l = l.places ≡ flat_map (port_places l.inputs) (take l.k l.source)
