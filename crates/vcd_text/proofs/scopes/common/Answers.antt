use Rattle.std.proofs.Common.{◌<◌, ◌≤◌, length, arith}
use Rattle.vcd_text.proofs.Commons.{common_more, common_stops, common_in_from, common_in_to, told_same, told_other}
use Rattle.vcd_text.proofs.scopes.common.Goals as goal

pub returns-then-ne-clause-is : goal.returns-then-ne-clause-is
returns-then-ne-clause-is c =
    let from = c.args.from.now in
    let to = c.args.to.now in
    let k = c.loop-count.count in
    let low : k < length from = omega arith in
    let also : k < length to = omega arith in
    let stops = common_stops from to k low also c.index-from-count.result c.index-to-count.result c.index-from-count.is c.index-to-count.is
    (told_other c.index-from-count.result c.index-to-count.result c.if-ne.ensures) in
    omega (arith, stops, c.loop-count.invariant.is)

pub loop-count-preserved : goal.loop-count-preserved
loop-count-preserved c =
    let from = c.args.from.now in
    let to = c.args.to.now in
    let k = c.loop-count.count in
    let low : k < length from = omega arith in
    let also : k < length to = omega arith in
    let more = common_more from to k low also c.index-from-count.result c.index-to-count.result c.index-from-count.is c.index-to-count.is
    (told_same c.index-from-count.result c.index-to-count.result c.if-ne.ensures) in
    record { within_from = omega arith; within_to = omega arith; is = omega (arith, more, c.loop-count.invariant.is) }

pub returns-else-count-to-clause-is : goal.returns-else-count-to-clause-is
returns-else-count-to-clause-is c =
    let past : length c.args.to.now ≤ c.loop-count.count = omega arith in
    omega (arith, common_in_to c.args.from.now c.args.to.now c.loop-count.count past, c.loop-count.invariant.is)

pub returns-after-loop-count-clause-is : goal.returns-after-loop-count-clause-is
returns-after-loop-count-clause-is c =
    let past : length c.args.from.now ≤ c.loop-count.count = omega arith in
    omega (arith, common_in_from c.args.from.now c.args.to.now c.loop-count.count past, c.loop-count.invariant.is)
