use Rattle.std.proofs.Common.{◌≡◌, ◌++◌, take, map, flat_map}
use Rattle.sdc_objects.specs.declared.things.Place.TheVariants.{Through}
use Rattle.sdc_objects.specs.Standing.{pins_of, through_column, warnings}
use Rattle.exception_expand.proofs.sets.pin_sets.Given as goal

abbrev pub invariant-loop-k : goal.invariant-loop-k
invariant-loop-k l = record {
  sets : l.sets ≡ map (pins_of l.scope.linked.now l.scope.script.now) (take l.k l.lists);
  warnings : l.warnings ≡ l.fn.warnings ++
      flat_map (warnings (through_column l.scope.linked.now) l.scope.linked.now l.scope.script.now l.scope.strict Through) (take l.k l.lists);
}
