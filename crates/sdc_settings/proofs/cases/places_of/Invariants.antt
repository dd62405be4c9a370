use Rattle.std.proofs.Common.{◌≡◌, take}
use Rattle.std.specs.List.{flat_map}
use Rattle.std.specs.Prelude.{All}
use Rattle.sdc_settings.specs.Settings.{case_places, IsCaseObject}
use Rattle.sdc_settings.proofs.cases.places_of.Given as goal

abbrev pub invariant-loop-k : goal.invariant-loop-k
invariant-loop-k l = record {
  places : l.places ≡ flat_map (case_places l.inputs l.clock) (take l.k l.objects);
  objects : All (IsCaseObject l.inputs l.clock) (take l.k l.objects);
}
