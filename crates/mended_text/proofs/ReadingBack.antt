-- A text has one script, and a script one list of settings and one selection, so what is read back decides.
use Rattle.std.proofs.Common.{◌≡◌, ◌∙◌, ◌↔◌, ℕ, Bool, false, List, Option, sym, ap, subst}
use Rattle.std.specs.Prelude.{IsTrue, Result, Ok, Err}
use Rattle.sdcv_base.specs.declared.settings.Setting.{Setting}
use Rattle.net_model.specs.declared.claims.Claim.{Claim}
use Rattle.linked_types.specs.declared.names.PortName.{PortName}
use Rattle.script_types.specs.declared.scripts.Script.{Script}
use Rattle.script_types.specs.declared.faults.SdcFault.{SdcFault}
use Rattle.sdc_text.specs.Scripts.{script_of}
use Rattle.sdc_settings.specs.declared.values.Settings.{Settings}
use Rattle.sdc_settings.specs.Settings.{AreSettings}
use Rattle.sdc_settings.specs.Causes.{IsSettingsCause}
use Rattle.sdc_settings.proofs.OneSettings.{settings_same, settings_only}
use Rattle.selected_types.specs.declared.faults.ExpandFault.{ExpandFault}
use Rattle.selected_types.specs.declared.faults.ExpandFault.TheVariants as fault
use Rattle.selected_types.specs.declared.selections.Selected.{Selected}
use Rattle.exception_expand.specs.Causes.{IsExpandCause}
use Rattle.exception_expand.specs.Selections.{IsSelectionOf}
use Rattle.exception_expand.proofs.OneSelection.{selection_same, selection_only}
use Rattle.mended_text.specs.Scenes.{Scene}
use Rattle.mended_text.specs.Mended.{SelectsClaims, SelectsThese, SelectsExactly}

-- a script with settings has these ones where both are the same
pub settings_decide : (script : Script) (inputs : List PortName) (resets : List Setting) (clock : Option (List ℕ)) (s again : Settings) (same : Bool)
    → AreSettings script inputs resets clock again → (IsTrue same ↔ (again ≡ s)) → IsTrue same ↔ AreSettings script inputs resets clock s
settings_decide script inputs resets clock s again same are (to, from) =
    (λ yes. subst (AreSettings script inputs resets clock) (to yes) are, λ those. from (settings_same script inputs resets clock s again those are))

-- a script without settings has not these ones
pub settings_miss : (script : Script) (inputs : List PortName) (resets : List Setting) (clock : Option (List ℕ)) (s : Settings) (e : ExpandFault)
    → IsSettingsCause script inputs resets clock e → (e ≡ fault.Memory → ⊥) → IsTrue false ↔ AreSettings script inputs resets clock s
settings_miss script inputs resets clock s e cause other =
    (λ yes. absurd cc, λ those. absurd (other (settings_only script inputs resets clock s e those cause)))

-- a script with a selection selects these claims where both are the same
pub claims_decide : (scene : Scene) (claims : List Claim) (script : Script) (again : Selected) (same : Bool)
    → IsSelectionOf scene.linked script scene.judging again → (IsTrue same ↔ (again.claims ≡ claims)) → IsTrue same ↔ SelectsClaims scene claims script
claims_decide scene claims script again same is (to, from) = (
  λ yes. record { selected = again; selection = is; exactly = to yes },
  λ those. from
      (ap (λ (s : Selected). s.claims) (selection_same scene.linked script scene.judging those.selected again those.selection is) ∙ those.exactly),
)

-- a script without a selection does not select these claims
pub claims_miss : (scene : Scene) (claims : List Claim) (script : Script) (e : ExpandFault) → IsExpandCause scene.linked script scene.judging e
    → (e ≡ fault.Memory → ⊥) → IsTrue false ↔ SelectsClaims scene claims script
claims_miss scene claims script e cause other =
    (λ yes. absurd cc, λ those. absurd (other (selection_only scene.linked script scene.judging those.selected e those.selection cause)))

-- a text does what its script does
pub text_decides : (scene : Scene) (claims : List Claim) (text : List ℕ) (script : Script) (same : Bool) → script_of scene.forms.script text ≡ Ok script
    → (IsTrue same ↔ SelectsThese scene claims script) → IsTrue same ↔ SelectsExactly scene claims text
text_decides scene claims text script same read (to, from) = (
  λ yes. record { script = script; read = read; these = to yes },
  λ does.
      let one : does.script ≡ script = let both : ◌≡◌ {A = Result Script SdcFault} (Ok does.script) (Ok script) = sym does.read ∙ read in cc in
      from (subst (SelectsThese scene claims) one does.these),
)

-- a text that is refused has no script
pub text_misses : (scene : Scene) (claims : List Claim) (text : List ℕ) (e : SdcFault) → script_of scene.forms.script text ≡ Err e
    → IsTrue false ↔ SelectsExactly scene claims text
text_misses scene claims text e refused = (
  λ yes. absurd cc,
  λ does. let both : ◌≡◌ {A = Result Script SdcFault} (Ok does.script) (Err e) = sym does.read ∙ refused in absurd cc,
)
