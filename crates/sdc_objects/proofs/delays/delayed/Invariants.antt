use Rattle.std.proofs.Common.{◌≡◌, take, flat_map}
use Rattle.script_types.specs.declared.scripts.Command.{Command}
use Rattle.sdc_objects.specs.Delays.{delayed_by}
use Rattle.sdc_objects.proofs.delays.delayed.Given as goal

abbrev pub invariant-loop-k : goal.invariant-loop-k
invariant-loop-k l = l.found ≡
    flat_map (λ (c : Command). delayed_by l.scope.linked.now l.scope.script.now l.side l.name c.what) (take l.k l.scope.script.now.commands)
