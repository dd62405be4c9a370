use Rattle.std.proofs.Common.{◌≡◌, take}
use Rattle.std.specs.List.{flat_map}
use Rattle.std.specs.Prelude.{All}
use Rattle.script_types.specs.declared.scripts.Command.{Command}
use Rattle.sdc_settings.specs.Settings.{given_by, case_objects, IsCaseObject}
use Rattle.sdc_settings.proofs.cases.all_given.Given as goal

abbrev pub invariant-loop-k : goal.invariant-loop-k
invariant-loop-k l = record {
  givens : l.givens ≡ flat_map (λ (c : Command). given_by l.inputs l.clock c.line c.what) (take l.k l.script.commands);
  objects : All (λ (c : Command). All (IsCaseObject l.inputs l.clock) (case_objects c.what)) (take l.k l.script.commands);
}
