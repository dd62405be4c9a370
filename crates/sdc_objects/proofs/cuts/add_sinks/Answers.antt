use Rattle.std.proofs.Common.{◌+◌, List, take}
use Rattle.net_model.specs.declared.claims.End.{End}
use Rattle.linked_types.specs.declared.names.PinName.{PinName}
use Rattle.list_laws.proofs.Joining.{flat_next, pushed}
use Rattle.sdc_objects.specs.Cuts.{sink_end, sink_ends}
use Rattle.sdc_objects.proofs.cuts.add_sinks.Goals as goal

pub loop-k-preserved : goal.loop-k-preserved
loop-k-preserved c =
    let of : PinName → List End = λ (p : PinName). sink_end p.role in
    pushed c.args.found.now c.loop-k.found c.add_sink.new.found (sink_end c.item.result.now.role) (sink_ends (take (c.loop-k.k + 1) c.args.pins.now))
    (sink_ends (take c.loop-k.k c.args.pins.now)) c.loop-k.invariant c.in_ok-add_sink.ensures
    (flat_next of c.args.pins.now c.loop-k.k c.item.result.now c.item.ensures)
