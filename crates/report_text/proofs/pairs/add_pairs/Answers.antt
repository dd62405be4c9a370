use Rattle.std.proofs.Common.{arith, ◌+◌}
use Rattle.report_text.specs.Reports.{pair_lines}
use Rattle.report_text.proofs.Rowing.{row_added, rows_end}
use Rattle.report_text.proofs.pairs.add_pairs.Goals as goal

pub loop-k-preserved : goal.loop-k-preserved
loop-k-preserved c =
    row_added (pair_lines c.args.limit) _ c.loop-k.k c.args.selected.now.pairs c.args.selected.now.claims c.args.verdicts.now _ _ _ _ c.loop-k.report
    c.add_pair.new.report c.row_at.ensures.pair c.row_at.ensures.claim c.row_at.ensures.verdict c.row_at.ensures.number c.in_ok-add_pair.ensures
    c.loop-k.invariant

pub returns : goal.returns
returns c =
    rows_end (pair_lines c.args.limit) (c.loop-k.k + 1) c.loop-k.k c.args.selected.now.pairs c.args.selected.now.claims c.args.verdicts.now _
    c.loop-k.report (omega (arith, c.requires.found)) c.loop-k.invariant
