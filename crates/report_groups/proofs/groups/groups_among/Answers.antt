use Rattle.std.proofs.Common.{◌∙◌, ◌++◌, ap, sym, arith, map, List}
use Rattle.std.proofs.lemmas.List.{drop_all, append-nil}
use Rattle.report_rows.specs.declared.reports.PairRow.{PairRow}
use Rattle.report_groups.specs.Groups.{firsts, group_by}
use Rattle.report_groups.proofs.GroupSteps.{groups_more, firsts-nil}
use Rattle.report_groups.proofs.groups.groups_among.Goals as goal

pub loop-row-preserved : goal.loop-row-preserved
loop-row-preserved c =
    groups_more _ c.loop-row.groups c.add_group.new.groups c.args.keys.now c.loop-row.seen c.add_group.new.seen c.args.rows.now c.loop-row.row-index c.row-item.result
    c.loop-row.invariant (omega arith) c.row-item.is c.in_ok-add_group.ensures.seen (c.in_ok-add_group.ensures.groups c.args.keys.now c.in_ok-counts.ensures)

pub returns : goal.returns
returns c =
    sym (c.loop-row.invariant
    ∙ ap (λ (rs : List PairRow). c.loop-row.groups ++ map (group_by c.args.keys.now) (firsts c.loop-row.seen rs)) (drop_all c.loop-row.row-index c.args.rows.now (omega arith))
    ∙ ap (λ (rs : List PairRow). c.loop-row.groups ++ map (group_by c.args.keys.now) rs) (firsts-nil c.loop-row.seen) ∙ append-nil c.loop-row.groups)
