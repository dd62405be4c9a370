use Rattle.std.proofs.Common.{Ok, Err, ap, ◌∙◌}
use Rattle.std.proofs.lemmas.Result.{err_from_is_err_and}
use Rattle.run_options.specs.declared.forms.ScriptForm.TheVariants.{Narrow}
use Rattle.run_options.specs.declared.netlists.NetlistForm.TheVariants as netlists
use Rattle.design_stages.specs.Texts.{Netlist, Constraints}
use Rattle.sdcv_top.specs.Due.{Demonstrated}
use Rattle.sdcv_top.proofs.BuiltinLibrary.{builtin_is}
use Rattle.sdcv_top.proofs.Staging.{after_ok, after_err, planned_by, planned_memory, last_planned, finds_text, demo_designs}
use Rattle.sdcv_top.proofs.demos.demonstrated.Goals as goal

pub returns-in_err-texts : goal.returns-in_err-texts
unfolding Demonstrated
returns-in_err-texts g c =
    let p = err_from_is_err_and c.from_residual.result c.from_residual.ensures.1 in
    planned_by _ _ _ (p.1 ∙ ap Err p.2)
    (planned_memory _)

pub returns-in_err-source : goal.returns-in_err-source
unfolding Demonstrated
returns-in_err-source g c =
    let found = finds_text (Netlist netlists.Narrow) _ _ (Err c.in_err-source.field-0.0) (c.deref.ensures.value ∙ c.in_ok-texts.ensures.verilog) c.in_err-source.ensures.found in
    let p = err_from_is_err_and c.from_residual-in_err-source.result c.from_residual-in_err-source.ensures.1 in
    planned_by _ _ _ (p.1 ∙ ap Err p.2)
    (after_err _ _ _ found)

pub returns-in_err-script : goal.returns-in_err-script
unfolding Demonstrated
returns-in_err-script g c =
    let source = finds_text (Netlist netlists.Narrow) _ _ (Ok c.in_ok-source.source) (c.deref.ensures.value ∙ c.in_ok-texts.ensures.verilog) c.in_ok-source.ensures.found in
    let same = c.deref-2.ensures.value ∙ c.in_ok-texts.ensures.sdc in
    let found = finds_text (Constraints Narrow) _ _ (Err c.in_err-script.field-0.0) same c.in_err-script.ensures.found in
    let p = err_from_is_err_and c.from_residual-in_err-script.result c.from_residual-in_err-script.ensures.1 in
    planned_by _ _ _ (p.1 ∙ ap Err p.2)
    (after_ok _ _ _ _ source (after_err _ _ _ found))

pub returns-in_err-library : goal.returns-in_err-library
unfolding Demonstrated
returns-in_err-library g c =
    let source = finds_text (Netlist netlists.Narrow) _ _ (Ok c.in_ok-source.source) (c.deref.ensures.value ∙ c.in_ok-texts.ensures.verilog) c.in_ok-source.ensures.found in
    let script = finds_text (Constraints Narrow) _ _ (Ok c.in_ok-script.script) (c.deref-2.ensures.value ∙ c.in_ok-texts.ensures.sdc) c.in_ok-script.ensures.found in
    let p = err_from_is_err_and c.from_residual-in_err-library.result c.from_residual-in_err-library.ensures.1 in
    planned_by _ _ _ (p.1 ∙ ap Err p.2)
    (after_ok _ _ _ _ source (after_ok _ _ _ _ script (planned_memory _)))

pub returns-in_err-reset : goal.returns-in_err-reset
unfolding Demonstrated
returns-in_err-reset g c =
    let source = finds_text (Netlist netlists.Narrow) _ _ (Ok c.in_ok-source.source) (c.deref.ensures.value ∙ c.in_ok-texts.ensures.verilog) c.in_ok-source.ensures.found in
    let script = finds_text (Constraints Narrow) _ _ (Ok c.in_ok-script.script) (c.deref-2.ensures.value ∙ c.in_ok-texts.ensures.sdc) c.in_ok-script.ensures.found in
    let p = err_from_is_err_and c.from_residual-in_err-reset.result c.from_residual-in_err-reset.ensures.1 in
    planned_by _ _ _ (p.1 ∙ ap Err p.2)
    (after_ok _ _ _ _ source (after_ok _ _ _ _ script (planned_memory _)))

pub returns-in_err-designed : goal.returns-in_err-designed
unfolding Demonstrated
returns-in_err-designed g c =
    let source = finds_text (Netlist netlists.Narrow) _ _ (Ok c.in_ok-source.source) (c.deref.ensures.value ∙ c.in_ok-texts.ensures.verilog) c.in_ok-source.ensures.found in
    let script = finds_text (Constraints Narrow) _ _ (Ok c.in_ok-script.script) (c.deref-2.ensures.value ∙ c.in_ok-texts.ensures.sdc) c.in_ok-script.ensures.found in
    let cells = builtin_is c.in_ok-library.library c.in_ok-library.ensures.table in
    let designed = demo_designs _ _ _ _ _ (Err c.in_err-designed.field-0.0) cells c.in_ok-reset.ensures c.in_err-designed.ensures.found in
    let p = err_from_is_err_and c.from_residual-in_err-designed.result c.from_residual-in_err-designed.ensures.1 in
    planned_by _ _ _ (p.1 ∙ ap Err p.2)
    (after_ok _ _ _ _ source (after_ok _ _ _ _ script (after_err _ _ _ designed)))

pub returns-in_err-plan : goal.returns-in_err-plan
unfolding Demonstrated
returns-in_err-plan g c =
    let source = finds_text (Netlist netlists.Narrow) _ _ (Ok c.in_ok-source.source) (c.deref.ensures.value ∙ c.in_ok-texts.ensures.verilog) c.in_ok-source.ensures.found in
    let script = finds_text (Constraints Narrow) _ _ (Ok c.in_ok-script.script) (c.deref-2.ensures.value ∙ c.in_ok-texts.ensures.sdc) c.in_ok-script.ensures.found in
    let cells = builtin_is c.in_ok-library.library c.in_ok-library.ensures.table in
    let designed = demo_designs _ _ _ _ _ (Ok c.in_ok-designed.designed) cells c.in_ok-reset.ensures c.in_ok-designed.ensures.found in
    let p = err_from_is_err_and c.from_residual-in_err-plan.result c.from_residual-in_err-plan.ensures.1 in
    planned_by _ _ _ (p.1 ∙ ap Err p.2)
    (after_ok _ _ _ _ source (after_ok _ _ _ _ script (after_ok _ _ _ _ designed (planned_memory _))))

pub returns : goal.returns
unfolding Demonstrated
returns g c =
    let source = finds_text (Netlist netlists.Narrow) _ _ (Ok c.in_ok-source.source) (c.deref.ensures.value ∙ c.in_ok-texts.ensures.verilog) c.in_ok-source.ensures.found in
    let script = finds_text (Constraints Narrow) _ _ (Ok c.in_ok-script.script) (c.deref-2.ensures.value ∙ c.in_ok-texts.ensures.sdc) c.in_ok-script.ensures.found in
    let cells = builtin_is c.in_ok-library.library c.in_ok-library.ensures.table in
    let designed = demo_designs _ _ _ _ _ (Ok c.in_ok-designed.designed) cells c.in_ok-reset.ensures c.in_ok-designed.ensures.found in
    after_ok _ _ _ _ source (after_ok _ _ _ _ script (after_ok _ _ _ _ designed (last_planned _ _ c.in_ok-plan.ensures)))
