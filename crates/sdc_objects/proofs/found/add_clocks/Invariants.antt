use Rattle.std.proofs.Common.{◌≡◌, ◌++◌, take}
use Rattle.sdcv_base.specs.Seqs.{each_at}
use Rattle.sdc_objects.specs.Things.{clock_named}
use Rattle.sdc_objects.proofs.found.add_clocks.Given as goal

abbrev pub invariant-loop-place : goal.invariant-loop-place
invariant-loop-place l = l.found ≡ l.fn.found ++ each_at (clock_named l.query l.scope.linked.now.names) 0 (take l.place l.scope.script.now.commands)
