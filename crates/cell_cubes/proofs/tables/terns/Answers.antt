use Rattle.std.proofs.Common.{◌≡◌, ◌+◌, ◌-◌, arith}
use Rattle.cell_cubes.proofs.Digits.{terns_more}
use Rattle.cell_cubes.proofs.tables.terns.Goals as goal

pub loop-preserved : goal.loop-preserved
loop-preserved c =
    let less : c.args.places - (c.loop.counter + 1) ≡ c.args.places - c.loop.counter - 1 = omega arith in
    rw (c.in_ok-push.ensures.ok, c.digit.ensures, less) (terns_more c.loop.fixed _ (c.args.places - c.loop.counter) c.loop.rest (omega arith) c.loop.invariant)
