use Rattle.std.proofs.Common.{◌+◌, List, take}
use Rattle.net_model.specs.declared.claims.End.{End}
use Rattle.linked_types.specs.declared.names.CellName.{CellName}
use Rattle.list_laws.proofs.Joining.{flat_next, pushed}
use Rattle.sdc_objects.specs.Cuts.{sink_ends, all_sinks}
use Rattle.sdc_objects.proofs.cuts.add_all_sinks.Goals as goal

pub loop-k-preserved : goal.loop-k-preserved
loop-k-preserved c =
    let of : CellName → List End = λ (x : CellName). sink_ends x.pins in
    pushed c.args.found.now c.loop-k.found c.add_sinks.new.found (sink_ends c.item.result.now.pins) (all_sinks (take (c.loop-k.k + 1) c.args.cells.now))
    (all_sinks (take c.loop-k.k c.args.cells.now)) c.loop-k.invariant c.in_ok-add_sinks.ensures
    (flat_next of c.args.cells.now c.loop-k.k c.item.result.now c.item.ensures)
