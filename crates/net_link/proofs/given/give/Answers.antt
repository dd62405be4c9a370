use Rattle.std.proofs.Common.{arith}
use Rattle.link_tops.proofs.Clashing.{there_again}
use Rattle.net_link.proofs.Giving.{unknown, again, place_none, place_there}
use Rattle.net_link.proofs.given.give.Goals as goal

pub returns-then-place-len-clause-err : goal.returns-then-place-len-clause-err
returns-then-place-len-clause-err c =
    rw c.in_ok-copy.ensures (unknown c.args.ins.now c.args.given.now c.args.name.now
    (place_none c.args.name.now c.args.ins.now c.place-place.result c.place-place.ensures (omega (arith, c.if-place-len.true, c.len.ensures))))

pub returns-then-not-branch-clause-err : goal.returns-then-not-branch-clause-err
returns-then-not-branch-clause-err c =
    rw c.in_ok-copy-2.ensures (again c.args.ins.now c.args.given.now c.args.name.now
    (there_again c.args.given.now c.args.name.now c.in_ok-add.field-0 c.in_ok-add.ensures.fresh c.if-not-branch.true))

pub returns-clause-place : goal.returns-clause-place
returns-clause-place c =
    place_there c.args.name.now c.args.ins.now c.place-place.result c.place-place.ensures (omega (arith, c.if-place-len.false, c.len.ensures))
