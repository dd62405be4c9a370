use Rattle.std.proofs.Common.{◌≡◌, [], ◌∷◌, take}
use Rattle.linked_types.specs.declared.names.PortName.{PortName}
use Rattle.sdcv_base.specs.Seqs.{each_at}
use Rattle.sdc_objects.specs.Things.{bit_of}
use Rattle.sdc_objects.proofs.found.all_bits.Given as goal

abbrev pub invariant-loop-place : goal.invariant-loop-place
invariant-loop-place l = l.found ≡ each_at (λ place (p : PortName). bit_of l.side place ∷ []) 0 (take l.place l.ports)
