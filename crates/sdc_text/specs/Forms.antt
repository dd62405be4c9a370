-- What the form of a script asks for.
use Rattle.std.specs.Prelude.{ℕ, Bool, true, false, List}
use Rattle.std.specs.List.{list_any}
use Rattle.std.specs.Str.{bytes_eq}
use Rattle.run_options.specs.declared.forms.ScriptForm.{ScriptForm}
use Rattle.run_options.specs.declared.forms.ScriptForm.TheVariants as form
use Rattle.sdc_values.specs.declared.nested_kinds.Nesting.{Nesting}
use Rattle.sdc_values.specs.declared.nested_kinds.Nesting.TheVariants as nesting

abbrev pub is_wide : ScriptForm → Bool
is_wide form.Narrow = false
is_wide (form.Wide names) = true

-- how the nested commands of a command are read
abbrev pub nesting_of : ScriptForm → Nesting
nesting_of form.Narrow = nesting.Narrow
nesting_of (form.Wide names) = nesting.Wide

abbrev pub is_among : List (List ℕ) → List ℕ → Bool
is_among names x = list_any (λ (name : List ℕ). bytes_eq name x) names

-- a command of this name may be passed over where it has no reading
abbrev pub skips : ScriptForm → List ℕ → Bool
skips form.Narrow x = false
skips (form.Wide names) x = is_among names x
