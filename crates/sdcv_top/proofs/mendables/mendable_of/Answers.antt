use Rattle.std.proofs.Common.{ℕ, List, Result, Ok, Err, ap, ◌∙◌}
use Rattle.std.proofs.lemmas.Result.{err_from_is_err_and}
use Rattle.design_stages.specs.declared.refusals.Refusal.TheVariants as refusal
use Rattle.design_stages.specs.Texts.{Constraints}
use Rattle.design_stages.proofs.Staging.{then_finds, then_refuses, then_stops, stops}
use Rattle.sdcv_top.specs.declared.mendables.Mendable.{Mendable}
use Rattle.sdcv_top.specs.Mendables.{IsMendable}
use Rattle.sdcv_top.proofs.Copying.{designs_copied}
use Rattle.sdcv_top.proofs.Staging.{finds_text}
use Rattle.sdcv_top.proofs.mendables.mendable_of.Goals as goal

pub returns-in_err-script-clause-found : goal.returns-in_err-script-clause-found
unfolding IsMendable
returns-in_err-script-clause-found c =
    let p = err_from_is_err_and c.from_residual.result c.from_residual.ensures.1 in
    let refused = finds_text (Constraints c.args.options.forms.script) _ _ (Err c.in_err-script.field-0.0) c.deref.ensures.value c.in_err-script.ensures.found in
    stops (IsMendable c.args.source c.args.library c.args.options c.args.text.items) _ _ (p.1 ∙ ap Err p.2) (then_stops _ _ _ refused)

pub returns-in_err-settled-clause-found : goal.returns-in_err-settled-clause-found
unfolding IsMendable
returns-in_err-settled-clause-found c =
    let p = err_from_is_err_and c.from_residual-in_err-settled.result c.from_residual-in_err-settled.ensures.1 in
    let read = finds_text (Constraints c.args.options.forms.script) _ _ (Ok c.in_ok-script.script) c.deref.ensures.value c.in_ok-script.ensures.found in
    stops (IsMendable c.args.source c.args.library c.args.options c.args.text.items) _ _ (p.1 ∙ ap Err p.2)
    (then_refuses _ _ _ _ read
    (then_stops _ _ _ c.in_err-settled.ensures))

pub returns-in_err-held-clause-found : goal.returns-in_err-held-clause-found
returns-in_err-held-clause-found c =
    let p = err_from_is_err_and c.from_residual-in_err-held.result c.from_residual-in_err-held.ensures.1 in
    stops (IsMendable c.args.source c.args.library c.args.options c.args.text.items) _ refusal.Memory (p.1 ∙ ap Err p.2) tt

pub returns-in_err-designed-clause-found : goal.returns-in_err-designed-clause-found
unfolding IsMendable
returns-in_err-designed-clause-found c =
    let p = err_from_is_err_and c.from_residual-in_err-designed.result c.from_residual-in_err-designed.ensures.1 in
    let read = finds_text (Constraints c.args.options.forms.script) _ _ (Ok c.in_ok-script.script) c.deref.ensures.value c.in_ok-script.ensures.found in
    let refused = designs_copied _ _ _ _ (Err c.in_err-designed.field-0.0) c.in_ok-held.ensures c.in_err-designed.ensures.found in
    stops (IsMendable c.args.source c.args.library c.args.options c.args.text.items) _ _ (p.1 ∙ ap Err p.2)
    (then_refuses _ _ _ _ read
    (then_refuses _ _ _ _ c.in_ok-settled.ensures
    (then_stops _ _ _ refused)))

pub returns-clause-found : goal.returns-clause-found
unfolding IsMendable
returns-clause-found c =
    let read = finds_text (Constraints c.args.options.forms.script) _ _ (Ok c.in_ok-script.script) c.deref.ensures.value c.in_ok-script.ensures.found in
    let found = designs_copied _ _ _ _ (Ok c.in_ok-designed.designed) c.in_ok-held.ensures c.in_ok-designed.ensures.found in
    let of : List ℕ → Result Mendable (List ℕ) = λ text. Ok (record {
      text = text;
      script = c.in_ok-script.script;
      forms = c.args.options.forms;
      judging = c.args.options.judging;
      reset = c.args.options.reset;
      settled = c.in_ok-settled.settled;
      designed = c.in_ok-designed.designed;
    }) in
    then_finds _ _ _ _ read
    (then_finds _ _ _ _ c.in_ok-settled.ensures
    (then_finds _ _ _ _ found (ap of c.from_vec.ensures)))
