use Rattle.std.proofs.Common.{◌≡◌, take, flat_map}
use Rattle.std.specs.Prelude.{All}
use Rattle.script_types.specs.declared.scripts.Command.{Command}
use Rattle.sdc_settings.specs.Settings.{case_objects}
use Rattle.case_objects.specs.Values.{HasPlaces, command_values}
use Rattle.case_objects.proofs.found.case_values.Given as goal

abbrev pub invariant-loop-k : goal.invariant-loop-k
invariant-loop-k l = record {
  values : l.values ≡ flat_map (command_values l.scope.linked.now) (take l.k l.scope.script.now.commands);
  placed : All (λ (c : Command). All (HasPlaces l.scope.linked.now) (case_objects c.what)) (take l.k l.scope.script.now.commands);
}
