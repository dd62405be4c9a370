use Rattle.std.proofs.Common.{◌≡◌, take}
use Rattle.sdcv_base.specs.Seqs.{each_at}
use Rattle.sdc_objects.specs.Things.{any_clock}
use Rattle.sdc_objects.proofs.found.all_clocks.Given as goal

abbrev pub invariant-loop-place : goal.invariant-loop-place
invariant-loop-place l = l.found ≡ each_at (any_clock l.scope.linked.now.names) 0 (take l.place l.scope.script.now.commands)
