use Rattle.std.proofs.Common.{◌≡◌, ◌+◌, ◌-◌, arith}
use Rattle.prime_cubes.proofs.Tables.{terns_more}
use Rattle.prime_cubes.proofs.cells.row_terns.Goals as goal

pub loop-preserved : goal.loop-preserved
loop-preserved c =
    let less : c.args.places - (c.loop.counter + 1) ≡ c.args.places - c.loop.counter - 1 = omega arith in
    rw (c.in_ok-push.ensures.ok, c.of_bit.ensures, less) (terns_more c.loop.fixed _ (c.args.places - c.loop.counter) c.loop.rest (omega arith) c.loop.invariant)
