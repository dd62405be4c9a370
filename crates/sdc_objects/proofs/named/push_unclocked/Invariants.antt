use Rattle.std.proofs.Common.{◌≡◌, ◌++◌, not, take}
use Rattle.std.specs.Prelude.{◌&&◌}
use Rattle.linked_types.specs.declared.names.CellName.{CellName}
use Rattle.sdcv_base.specs.Seqs.{each_at, where_true}
use Rattle.sdc_objects.specs.declared.things.Thing.TheVariants as thing
use Rattle.sdc_objects.specs.Cuts.{is_cut, is_clocked}
use Rattle.sdc_objects.proofs.named.push_unclocked.Given as goal

abbrev pub invariant-loop-k : goal.invariant-loop-k
invariant-loop-k l = l.things ≡ l.fn.things
    ++ each_at (λ k (c : CellName). where_true (is_cut l.scope.linked.now.names k && not (is_clocked c.pins)) (thing.Cell k)) 0
    (take l.k l.scope.linked.now.names.cells)
