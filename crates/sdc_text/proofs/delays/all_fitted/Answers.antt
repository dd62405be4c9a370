use Rattle.std.proofs.Common.{◌∙◌, arith}
use Rattle.std.proofs.lemmas.Result.{err_from_is_err_and}
use Rattle.std.proofs.lemmas.List.{at_drop_all}
use Rattle.sdcv_base.specs.Steps.{after_all}
use Rattle.sdcv_base.proofs.StepLemmas.{after_all_more, after_all_bad, after_all_none}
use Rattle.sdc_text.specs.Delays.{adds_fitted}
use Rattle.sdc_text.proofs.delays.all_fitted.Goals as goal

pub loop-object-preserved : goal.loop-object-preserved
loop-object-preserved c =
    c.loop-object.invariant
    ∙ after_all_more (adds_fitted c.args.role) c.loop-object.found c.args.objects.now c.loop-object.object-index
    c.object-item.result (omega arith) c.object-item.is _ c.in_ok-add_fitted.ensures

pub returns-in_err-add_fitted : goal.returns-in_err-add_fitted
returns-in_err-add_fitted c =
    let p = err_from_is_err_and c.from_residual.result c.from_residual.ensures.1 in
    rw (p.1, p.2) (λ other. c.loop-object.invariant
    ∙ after_all_bad (adds_fitted c.args.role) c.loop-object.found c.args.objects.now c.loop-object.object-index
    c.object-item.result (omega arith) c.object-item.is _ (c.in_err-add_fitted.ensures other))

pub returns : goal.returns
returns c =
    c.loop-object.invariant
    ∙ at_drop_all (after_all (adds_fitted c.args.role) c.loop-object.found) c.args.objects.now c.loop-object.object-index (omega arith)
    ∙ after_all_none (adds_fitted c.args.role) c.loop-object.found
