use Rattle.std.proofs.Common.{◌+◌, List, take}
use Rattle.net_model.specs.declared.claims.Start.{Start}
use Rattle.linked_types.specs.declared.names.CellName.{CellName}
use Rattle.list_laws.proofs.Joining.{flat_next, pushed}
use Rattle.sdc_objects.specs.Cuts.{source_starts, all_sources}
use Rattle.sdc_objects.proofs.cuts.add_all_sources.Goals as goal

pub loop-k-preserved : goal.loop-k-preserved
loop-k-preserved c =
    let of : CellName → List Start = λ (x : CellName). source_starts x.pins in
    pushed c.args.found.now c.loop-k.found c.add_sources.new.found (source_starts c.item.result.now.pins) (all_sources (take (c.loop-k.k + 1) c.args.cells.now))
    (all_sources (take c.loop-k.k c.args.cells.now)) c.loop-k.invariant c.in_ok-add_sources.ensures
    (flat_next of c.args.cells.now c.loop-k.k c.item.result.now c.item.ensures)
