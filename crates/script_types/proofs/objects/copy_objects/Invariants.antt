use Rattle.std.proofs.Common.{◌≡◌, take}
use Rattle.script_types.proofs.objects.copy_objects.Given as goal

abbrev pub invariant-loop-object : goal.invariant-loop-object
invariant-loop-object l = l.copies ≡ take l.object-index l.objects
