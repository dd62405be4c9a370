use Rattle.std.proofs.Common.{suc, arith}
use Rattle.cert_words.proofs.Growing.{greatest_is}
use Rattle.cert_words.proofs.numbers.greatest_with.Goals as goal

pub loop-low-preserved : goal.loop-low-preserved
loop-low-preserved c =
    let i = c.loop-low.invariant in
    let r = i.reach in
    let some = i.some in
    let high = i.high_small in
    let test = c.loop-low-test.true in
    let low_is = r.1 in
    let high_is = r.2 in
    record {
      some = omega arith;
      few = omega arith;
      high_small = omega arith;
      reach = (suc r.0, omega arith, omega arith);
    }

pub returns : goal.returns
returns c =
    let i = c.loop-low.invariant in
    let r = i.reach in
    greatest_is r.0 c.args.number c.loop-low.low c.loop-low.high c.min.result c.requires.some r.1 r.2 i.few c.loop-low-test.false c.min.ensures
