use Rattle.std.proofs.Common.{arith}
use Rattle.link_cuts.proofs.Marked.{at_below, row_more, row_all}
use Rattle.link_cuts.proofs.marks.row_of.Goals as goal

pub loop-place-init : goal.loop-place-init
loop-place-init c = record { len = c.in_ok-row.ensures.len; marks = c.in_ok-row.ensures.each }

pub put-requires : goal.put-requires
put-requires c =
    let below = at_below c.args.nets c.args.list.now c.loop-place.place c.at.result c.requires c.at.ensures in omega (arith, c.loop-place.invariant.len, below)

pub loop-place-preserved : goal.loop-place-preserved
loop-place-preserved c =
    rw c.put.ensures (row_more c.args.nets c.args.list.now c.loop-place.row c.loop-place.place c.at.result c.at.ensures
    (at_below c.args.nets c.args.list.now c.loop-place.place c.at.result c.requires c.at.ensures) c.loop-place.invariant)

pub returns : goal.returns
returns c = row_all c.args.nets c.args.list.now c.loop-place.row c.loop-place.place (omega arith) c.loop-place.invariant
