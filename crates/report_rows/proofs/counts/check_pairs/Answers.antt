use Rattle.std.proofs.Common.{◌∙◌, ap, arith, get_or, length, subst, List}
use Rattle.std.specs.Prelude.{All}
use Rattle.std.proofs.lemmas.List.{take_all}
use Rattle.std.proofs.lemmas.List.Elements.{All-more}
use Rattle.report_rows.specs.Totals.{HasItsPairs}
use Rattle.report_rows.specs.declared.reports.PairRow.{PairRow}
use Rattle.report_rows.specs.declared.reports.ScriptRow.{ScriptRow}
use Rattle.report_rows.proofs.counts.check_pairs.Goals as goal

pub loop-row-preserved : goal.loop-row-preserved
loop-row-preserved c =
    let script = c.args.report.now.script in let row = c.row-item.result in
    let is = c.row-item.is ∙ ap (λ (xs : List ScriptRow). get_or xs c.loop-row.row-index row) c.as_slice-row-items.ensures in
    let here = subst (λ (xs : List PairRow). HasItsPairs xs row) c.as_slice.ensures c.in_default.ensures in
    All-more (HasItsPairs c.args.report.now.pairs) script c.loop-row.row-index row (omega (arith, ap length c.as_slice-row-items.ensures))
    c.loop-row.invariant (subst (HasItsPairs c.args.report.now.pairs) is here)

pub returns-clause-ok : goal.returns-clause-ok
returns-clause-ok c =
    subst (λ (xs : List ScriptRow). All (HasItsPairs c.args.report.now.pairs) xs)
    (take_all c.loop-row.row-index c.args.report.now.script (omega (arith, ap length c.as_slice-row-items.ensures))) c.loop-row.invariant
