use Rattle.std.proofs.Common.{◌+◌, List, take}
use Rattle.net_model.specs.declared.claims.Start.{Start}
use Rattle.linked_types.specs.declared.names.PinName.{PinName}
use Rattle.list_laws.proofs.Joining.{flat_next, pushed}
use Rattle.sdc_objects.specs.Cuts.{source_start, source_starts}
use Rattle.sdc_objects.proofs.cuts.add_sources.Goals as goal

pub loop-k-preserved : goal.loop-k-preserved
loop-k-preserved c =
    let of : PinName → List Start = λ (p : PinName). source_start p.role in
    pushed c.args.found.now c.loop-k.found c.add_source.new.found (source_start c.item.result.now.role) (source_starts (take (c.loop-k.k + 1) c.args.pins.now))
    (source_starts (take c.loop-k.k c.args.pins.now)) c.loop-k.invariant c.in_ok-add_source.ensures
    (flat_next of c.args.pins.now c.loop-k.k c.item.result.now c.item.ensures)
