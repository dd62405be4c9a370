-- The text to which a script is mended, and what reading it back has to give.
use Rattle.std.specs.Prelude.{◌≡◌, ℕ, List, length, All, Ok}
use Rattle.net_model.specs.Judge.{Holds}
use Rattle.net_model.specs.declared.claims.Claim.{Claim}
use Rattle.linked_types.specs.declared.names.Names.{Names}
use Rattle.script_types.specs.declared.scripts.Script.{Script}
use Rattle.selected_types.specs.declared.selections.Selected.{Selected}
use Rattle.sdc_words.specs.Lines.{cleaned}
use Rattle.sdc_pieces.specs.Pieces.{rewritten}
use Rattle.sdc_text.specs.Scripts.{script_of}
use Rattle.sdc_settings.specs.Settings.{AreSettings}
use Rattle.design_stages.specs.Designs.{asked_clock}
use Rattle.exception_expand.specs.Selections.{IsSelectionOf}
use Rattle.mend_groups.specs.declared.ports.Ports.{Ports}
use Rattle.mend_groups.specs.declared.parts.Part.{Part}
use Rattle.mend_groups.specs.Parts.{parts_of}
use Rattle.mend_lines.specs.Bodies.{bodies_of}
use Rattle.mended_text.specs.declared.faults.MendFault.{MendFault}
use Rattle.mended_text.specs.declared.faults.MendFault.TheVariants.{Unread, Memory}
use Rattle.mended_text.specs.declared.mending.Mended.{Mended}
use Rattle.mended_text.specs.Scenes.{Scene, Findings}
use Rattle.mended_text.specs.Claims.{mended_claims}

-- the first inputs of a design are bits of its ports, and so are the first outputs
abbrev pub ports_of : Names → Ports
ports_of n = record { inputs = length n.ins; outputs = length n.outs }

-- what becomes of the claims of each exception
abbrev pub parts_by : Scene → Findings → List Part
parts_by scene f = parts_of (ports_of scene.linked.names) f.script f.hold f.selected f.verdicts

-- the text without carriage returns before its newlines, with what stands in the place of each command
abbrev pub text_by : List ℕ → Findings → List Part → List ℕ
text_by text f parts = rewritten (cleaned text) (bodies_of f.depth f.script f.hold f.selected f.verdicts parts)

abbrev pub mended_text : List ℕ → Scene → Findings → List ℕ
mended_text text scene f = text_by text f (parts_by scene f)

-- the claims of the exceptions that stay, and those of the new commands
abbrev pub claims_by : Scene → Findings → List Claim
claims_by scene f = mended_claims f.selected.claims (parts_by scene f)

-- a script selects exactly these claims
pub record SelectsClaims (scene : Scene) (claims : List Claim) (script : Script) : Type 0 where
  pub selected : Selected
  pub selection : IsSelectionOf scene.linked script scene.judging selected
  pub exactly : selected.claims ≡ claims

-- a script has the same clock and the same fixed inputs, where the same clock is asked for, and selects exactly these claims
pub record SelectsThese (scene : Scene) (claims : List Claim) (script : Script) : Type 0 where
  pub settings : AreSettings script scene.inputs scene.resets (asked_clock scene.forms.netlist) scene.settings
  pub selects : SelectsClaims scene claims script

-- a text is such a script
pub record SelectsExactly (scene : Scene) (claims : List Claim) (text : List ℕ) : Type 0 where
  pub script : Script
  pub read : script_of scene.forms.script text ≡ Ok script
  pub these : SelectsThese scene claims script

-- a text is mended: it selects exactly what is kept and can be written, and each of these claims holds in every run
pub record IsMended (text : List ℕ) (scene : Scene) (f : Findings) (m : Mended) : Type 0 where
  pub parts : m.parts ≡ parts_by scene f
  pub bytes : m.bytes.items ≡ mended_text text scene f
  pub again : SelectsExactly scene (claims_by scene f) m.bytes.items
  pub hold : All (Holds scene.linked.design) (claims_by scene f)

-- a text is not mended where the mended one would select something else
abbrev pub IsMendCause : List ℕ → Scene → Findings → MendFault → Type 0
IsMendCause text scene f Unread = ¬ SelectsExactly scene (claims_by scene f) (mended_text text scene f)
IsMendCause text scene f Memory = Unit {0}
