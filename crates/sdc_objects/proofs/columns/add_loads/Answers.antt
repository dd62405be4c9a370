use Rattle.std.proofs.Common.{◌+◌, ◌∷◌, [], take}
use Rattle.list_laws.proofs.Joining.{pushed, take_next}
use Rattle.sdc_objects.proofs.columns.add_loads.Goals as goal

pub loop-k-preserved : goal.loop-k-preserved
loop-k-preserved c =
    pushed c.args.found.now c.loop-k.found c.push.new.self (c.at.result ∷ []) (take (c.loop-k.k + 1) c.args.pins.now) (take c.loop-k.k c.args.pins.now)
    c.loop-k.invariant c.in_ok-push.ensures.ok (take_next c.args.pins.now c.loop-k.k c.at.result c.at.ensures)
