-- What a script is mended by, as values.
use Rattle.std.specs.Prelude.{◌≡◌, ℕ, Bool, List, Some, slice_get}
use Rattle.sdcv_base.specs.declared.settings.Setting.{Setting}
use Rattle.net_model.specs.Judge.{Holds}
use Rattle.net_model.specs.declared.claims.Claim.{Claim}
use Rattle.linked_types.specs.declared.names.Linked.{Linked}
use Rattle.linked_types.specs.declared.names.PortName.{PortName}
use Rattle.script_types.specs.declared.scripts.Script.{Script}
use Rattle.sdc_settings.specs.declared.values.Settings.{Settings}
use Rattle.selected_types.specs.declared.selections.Selected.{Selected}
use Rattle.run_options.specs.declared.forms.Forms.{Forms}
use Rattle.run_options.specs.declared.judging.Judging.{Judging}
use Rattle.verdict_types.specs.declared.outcomes.Proof.{Proof}
use Rattle.verdict_types.specs.declared.outcomes.Verdict.{Verdict}
use Rattle.verdict_types.specs.declared.outcomes.Verdict.TheVariants.{Justified}
use Rattle.mended_text.specs.declared.scenes.Scene.{Scene as TheScene}
use Rattle.mended_text.specs.declared.scenes.Findings.{Findings as TheFindings}

-- a linked design with the input bits of its top, its resets, how its netlist and a script are read, what the script sets in it, and how
-- claims are judged
pub record Scene : Type 0 where
  pub linked : Linked
  pub inputs : List PortName
  pub resets : List Setting
  pub forms : Forms
  pub settings : Settings
  pub judging : Judging

-- a script with what it selects, with hold sides or without, and what is found out about each claim in a run of this greatest depth
pub record Findings : Type 0 where
  pub script : Script
  pub hold : Bool
  pub selected : Selected
  pub verdicts : List Verdict
  pub depth : ℕ

abbrev pub seen_scene : TheScene → Scene
seen_scene s = record {
  linked = s.linked.now;
  inputs = s.inputs.now;
  resets = s.resets.now;
  forms = s.forms.now;
  settings = s.settings.now;
  judging = s.judging;
}

abbrev pub seen_findings : TheFindings → Findings
seen_findings f = record { script = f.script.now; hold = f.hold; selected = f.selected.now; verdicts = f.verdicts.now; depth = f.depth }

-- each claim that is justified holds in every run
abbrev pub AreProved : Scene → Findings → Type 0
AreProved scene f =
    (place : ℕ) (claim : Claim) (proof : Proof) → slice_get f.selected.claims place ≡ Some claim
    → slice_get f.verdicts place ≡ Some (Justified proof) → Holds scene.linked.design claim
