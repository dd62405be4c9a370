use Rattle.std.proofs.Common.{[], ◌∷◌, take, ◌+◌}
use Rattle.list_laws.proofs.Joining.{pushed, take_next}
use Rattle.case_objects.proofs.loads.push_pins.Goals as goal

pub loop-j-preserved : goal.loop-j-preserved
loop-j-preserved c =
    pushed c.args.list.now c.loop-j.list c.push.new.self (c.at.result ∷ []) (take (c.loop-j.j + 1) c.args.pins.now) (take c.loop-j.j c.args.pins.now)
    c.loop-j.invariant c.in_ok-push.ensures.ok (take_next c.args.pins.now c.loop-j.j c.at.result c.at.ensures)
