use Rattle.mend_groups.proofs.Comparing.{ends_long, ends_differ, ends_more, ends_over}
use Rattle.mend_groups.proofs.groups.have_ends.Goals as goal

pub returns-then-first-second : goal.returns-then-first-second
returns-then-first-second c = ends_long c.args.first.now c.args.second.now c.if-first-second.true

pub returns-then-not-is_end : goal.returns-then-not-is_end
returns-then-not-is_end c =
    ends_differ c.args.first.now c.args.second.now c.loop-k.k _ _ c.is_end.result c.loop-k-test.true c.loop-k.invariant.long c.loop-k.invariant.left
    c.is_end.ensures c.if-not-is_end.true

pub loop-k-preserved : goal.loop-k-preserved
loop-k-preserved c = record {
  long = c.loop-k.invariant.long;
  left =
      ends_more c.args.first.now c.args.second.now c.loop-k.k _ _ c.is_end.result c.loop-k-test.true c.loop-k.invariant.long c.loop-k.invariant.left
      c.is_end.ensures c.if-not-is_end.false;
}

pub returns : goal.returns
returns c = ends_over c.args.first.now c.args.second.now c.loop-k.k c.loop-k-test.false c.loop-k.invariant.long c.loop-k.invariant.left
