use Rattle.std.proofs.Common.{◌≡◌, take}
use Rattle.std.specs.Prelude.{◌||◌}
use Rattle.std.specs.Option.{is_some}
use Rattle.linked_types.specs.declared.names.CellName.{CellName}
use Rattle.sdcv_base.specs.Seqs.{each_at, where_true}
use Rattle.sdc_objects.specs.declared.things.Thing.TheVariants as thing
use Rattle.sdc_objects.specs.Cuts.{is_cut}
use Rattle.sdc_objects.proofs.named.registers_and_cuts.Given as goal

abbrev pub invariant-loop-k : goal.invariant-loop-k
invariant-loop-k l = l.found ≡ each_at (λ k (c : CellName). where_true (is_some c.reg || is_cut l.scope.linked.now.names k) (thing.Cell k)) 0
    (take l.k l.scope.linked.now.names.cells)
