use Rattle.std.proofs.Common.{arith, ◌+◌}
use Rattle.mend_groups.proofs.Rowing.{row_more, rows_over}
use Rattle.mend_groups.proofs.rows.rows_from.Goals as goal

pub loop-at-preserved : goal.loop-at-preserved
loop-at-preserved c =
    let pairs = c.args.pairs.now in
    row_more pairs.ports c.args.spelled pairs.selected.now pairs.verdicts.now c.loop-at.at (c.args.place + c.args.count) c.loop-at.rows c.push.new.self _
    c.row_at-found.result.pair.now c.row_at-found.result.claim.now c.row_at-found.result.verdict.now c.row_of.result (omega arith)
    c.row_at-found.ensures.pair c.row_at-found.ensures.claim c.row_at-found.ensures.verdict c.row_of.ensures c.in_ok-push.ensures.ok c.loop-at.invariant

pub returns : goal.returns
returns c =
    let pairs = c.args.pairs.now in
    rows_over pairs.ports c.args.spelled pairs.selected.now pairs.verdicts.now c.loop-at.at (c.args.place + c.args.count) c.loop-at.rows _ (omega arith)
    c.loop-at.invariant
