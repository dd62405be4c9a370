use Rattle.std.proofs.Common.{◌≡◌, ◌↔◌, Bool, false, sym, subst, IsTrue}
use Rattle.std.proofs.lemmas.Result.{IfOk-weaker}
use Rattle.selected_types.specs.declared.faults.ExpandFault.TheVariants as fault
use Rattle.sdc_settings.specs.Settings.{AreSettings}
use Rattle.mended_text.proofs.ReadingBack.{settings_decide, settings_miss}
use Rattle.mended_text.proofs.reading.gives_settings.Goals as goal

pub returns-in-Ok : goal.returns-in-Ok
returns-in-Ok c =
    let script = c.args.script.now in
    let scene = c.args.scene.now in
    settings_decide script scene.inputs.now scene.resets.now c.args.clock.now scene.settings.now c.in-Ok.again c.is_settings.result
    c.in-Ok.ensures.ok c.is_settings.ensures

pub returns-in-Err : goal.returns-in-Err
returns-in-Err c =
    let script = c.args.script.now in
    let scene = c.args.scene.now in
    let clock = c.args.clock.now in
    let Meant : Bool → Type 0 = λ (same : Bool). IsTrue same ↔ AreSettings script scene.inputs.now scene.resets.now clock scene.settings.now in
    IfOk-weaker c.refused.result (λ (same : Bool). (same ≡ false) × (c.in-Err.fault ≡ fault.Memory → ⊥)) Meant
    (λ same no.
    subst Meant (sym no.0)
    (settings_miss script scene.inputs.now scene.resets.now clock scene.settings.now c.in-Err.fault c.in-Err.ensures.err no.1))
    c.refused.ensures
