use Rattle.std.proofs.Common.{◌∙◌, ◌+◌, ◌++◌, ◌∷◌, [], take, ap}
use Rattle.linked_types.specs.declared.names.PortName.{PortName}
use Rattle.list_laws.proofs.Joining.{pushed, take_next}
use Rattle.sdc_objects.proofs.tables.add_copies.Goals as goal

pub loop-k-preserved : goal.loop-k-preserved
loop-k-preserved c =
    pushed c.args.ports.now c.loop-k.ports c.push.new.self (c.item.result.now ∷ []) (take (c.loop-k.k + 1) c.args.more.now) (take c.loop-k.k c.args.more.now)
    c.loop-k.invariant (c.in_ok-push.ensures.ok ∙ ap (λ (p : PortName). c.loop-k.ports ++ p ∷ []) c.in_ok-port.ensures)
    (take_next c.args.more.now c.loop-k.k c.item.result.now c.item.ensures)
