use Rattle.std.proofs.Common.{arith, ◌-◌}
use Rattle.net_model.proofs.PinTests.{held_set-after}
use Rattle.net_model.proofs.pins.is_held.Goals as goal

pub returns-then-layer-gt0 : goal.returns-then-layer-gt0
returns-then-layer-gt0 c =
    rw (held_set-after c.args.sets.now c.args.layer (c.args.layer - 1) c.item.result.now (omega arith) c.item.ensures) c.has.ensures.answer
