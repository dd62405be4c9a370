use Rattle.std.proofs.Common.{◌∙◌, ◌++◌, sym, ap}
use Rattle.list_laws.proofs.Joining.{flat_next}
use Rattle.sdc_objects.specs.Standing as spec
use Rattle.sdc_objects.proofs.named.with_ports.Goals as goal

pub loop-k-preserved : goal.loop-k-preserved
loop-k-preserved c =
    c.in_ok-add_with_ports.ensures ∙ ap (λ named. named ++ spec.with_ports c.at.result) c.loop-k.invariant
    ∙ sym (flat_next spec.with_ports c.args.things.now c.loop-k.k c.at.result c.at.ensures)
