use Rattle.std.proofs.Common.{◌∙◌, ◌++◌, ap, sym, [], ◌∷◌}
use Rattle.report_rows.specs.declared.reports.PairRow.{PairRow}
use Rattle.report_rows.specs.declared.reports.Told.{Told}
use Rattle.report_groups.specs.Differences as spec
use Rattle.report_groups.proofs.note_rows.add_told.Goals as goal

pub returns-in_ok-push : goal.returns-in_ok-push
returns-in_ok-push c =
    c.in_ok-push.ensures.ok ∙ ap (λ (r : PairRow). c.args.out.now ++ r ∷ []) c.in_ok-row.ensures
    ∙ ap (λ (t : Told). c.args.out.now ++ spec.told_rows t) (sym c.in-Unjudged.is)
