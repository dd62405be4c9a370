use Rattle.std.proofs.Common.{◌∷◌, []}
use Rattle.linked_types.specs.declared.names.PortName.{PortName}
use Rattle.sdc_objects.specs.declared.things.Thing.TheVariants as thing
use Rattle.list_laws.proofs.Joining.{added}
use Rattle.case_objects.specs.Spots.{spot}
use Rattle.case_objects.proofs.spots.all_inputs.Goals as goal

pub loop-i-preserved : goal.loop-i-preserved
loop-i-preserved c =
    added (λ i (p : PortName). spot p.name (thing.In i) ∷ []) c.args.ins.now [] c.loop-i.found c.add_where.new.found c.loop-i.i c.item.result.now
    c.item.ensures c.loop-i.invariant c.in_ok-add_where.ensures
