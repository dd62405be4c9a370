-- How the constraints of a view are read.
use Rattle.std.specs.Prelude.{ℕ, Bool, true, false, List, [], Option, None, Some}
use Rattle.std.specs.Option.{option_map}
use Rattle.run_options.specs.declared.forms.ScriptForm.{ScriptForm}
use Rattle.run_options.specs.declared.forms.ScriptForm.TheVariants.{Narrow, Wide}
use Rattle.sdcv_words.specs.Skips.{skips_of}

-- the names that a list spells, where it stands and each of them may be passed over
abbrev pub names_of : Option (List ℕ) → Option (Option (List (List ℕ)))
names_of None = Some None
names_of (Some list) = option_map Some (skips_of list)

-- wide where names are passed over, or where a report was made as for a sign-off
abbrev pub form_of : Option (List (List ℕ)) → Bool → ScriptForm
form_of (Some names) strict = Wide names
form_of None true = Wide []
form_of None false = Narrow
