use Rattle.std.proofs.Common.{Err, ap, ◌∙◌}
use Rattle.std.proofs.lemmas.Result.{err_from_is_err_and}
use Rattle.fault_lines.specs.declared.sources.Origin.TheVariants as origin
use Rattle.sdcv_top.specs.Texts.{Assists}
use Rattle.sdcv_top.proofs.FurtherReads.{refused_by}
use Rattle.sdcv_top.proofs.Staging.{finds_text}
use Rattle.sdcv_top.proofs.assisting.clauses.Goals as goal

pub returns-in_err-clauses-clause-found : goal.returns-in_err-clauses-clause-found
returns-in_err-clauses-clause-found g c =
    let p = err_from_is_err_and c.from_residual-in_err-clauses.result c.from_residual-in_err-clauses.ensures.1 in
    let refused = finds_text (Assists c.args.linked.now.names) _ _ (Err c.in_err-clauses.field-0.0) c.deref.ensures.value c.in_err-clauses.ensures.found in
    refused_by origin.Assist (Assists c.args.linked.now.names) _ _ _ _ _ _ _ c.in_ok-text.ensures.found refused (p.1 ∙ ap Err p.2)
