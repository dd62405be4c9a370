use Rattle.std.proofs.Common.{◌≡◌, drop, []}
use Rattle.sdcv_base.specs.Steps.{after_all}
use Rattle.sdc_text.specs.Delays.{adds_fitted}
use Rattle.sdc_text.proofs.delays.all_fitted.Given as goal

abbrev pub invariant-loop-object : goal.invariant-loop-object
invariant-loop-object l = after_all (adds_fitted l.role) [] l.objects ≡ after_all (adds_fitted l.role) l.found (drop l.object-index l.objects)
