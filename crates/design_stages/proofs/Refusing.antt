-- A fault of constraints that has a line is the one that their text has.
use Rattle.std.proofs.Common.{◌≡◌, ℕ, List, None, Some, Err, subst}
use Rattle.run_options.specs.declared.forms.ScriptForm.{ScriptForm}
use Rattle.script_types.specs.declared.faults.SdcFault.{SdcFault}
use Rattle.sdc_values.specs.Told.{Fails}
use Rattle.sdc_text.specs.Scripts.{script_of}
use Rattle.fault_lines.specs.Sources.{sdc_line}

-- want of memory has no line, so the fault with this line is that of the script
pub constraints_refused : (form : ScriptForm) (text line : List ℕ) (e : SdcFault) → Fails e (script_of form text) → sdc_line e ≡ Some line
    → (x : SdcFault) × (script_of form text ≡ Err x) × (sdc_line x ≡ Some line)
constraints_refused form text line e told has =
    (e, told (λ same. let wrong : None ≡ Some line = subst (λ (x : SdcFault). sdc_line x ≡ Some line) same has in absurd cc), has)
