use Rattle.std.proofs.Common.{◌≡◌, ◌∷◌, [], take}
use Rattle.linked_types.specs.declared.names.PortName.{PortName}
use Rattle.sdc_objects.specs.declared.things.Thing.TheVariants as thing
use Rattle.sdcv_base.specs.Seqs.{each_at}
use Rattle.case_objects.specs.Spots.{spot}
use Rattle.case_objects.proofs.spots.all_inputs.Given as goal

abbrev pub invariant-loop-i : goal.invariant-loop-i
invariant-loop-i l = l.found ≡ each_at (λ i (p : PortName). spot p.name (thing.In i) ∷ []) 0 (take l.i l.ins)
