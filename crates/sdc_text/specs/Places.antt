-- The commands that say where names are looked up: current_design, current_instance and set_hierarchy_separator (SDC 2.1).
use Rattle.std.specs.Prelude.{Bool, false, if◌then◌else◌, List, [], ◌∷◌, Result, Ok, Err, codes}
use Rattle.std.specs.Str.{bytes_eq}
use Rattle.texts.specs.Rules.{◌>>=◌}
use Rattle.script_types.specs.declared.faults.SdcFault.{SdcFault}
use Rattle.script_types.specs.declared.scripts.What.{What}
use Rattle.script_types.specs.declared.scripts.What.TheVariants as what
use Rattle.sdc_values.specs.declared.values.Value.{Value}
use Rattle.sdc_values.specs.declared.values.Value.TheVariants.{Text, Objects}
use Rattle.sdc_values.specs.declared.values.Said.{Said}
use Rattle.sdc_text.specs.declared.heads.Head.{Head}
use Rattle.sdc_text.specs.Heads.{surplus}
use Rattle.sdc_text.specs.Cases.{one_word}

-- the design that a value names
abbrev pub scope_named : Value → What
scope_named (Text text) = what.Scope text
scope_named (Objects objects) = what.Passed

-- what the words of current_design say: one that is a text names the design, and any others are passed over
abbrev pub scope_of : List Said → What
scope_of [] = what.Passed
scope_of (w ∷ []) = scope_named w.value
scope_of (a ∷ (b ∷ more)) = what.Passed

-- what the words of current_instance say: with a word, names would mean others
abbrev pub instance_of : Head → List Said → Result What SdcFault
instance_of head [] = Ok what.Passed
instance_of head (w ∷ more) = Err (surplus head w.value)

abbrev pub is_slash : Value → Bool
is_slash (Text text) = bytes_eq text (codes "/")
is_slash (Objects objects) = false

-- what the words of set_hierarchy_separator say: with another one than `/`, names would mean others
unfoldable pub separator_of : Head → List Said → Result What SdcFault
separator_of head words = one_word head words >>= λ w. if is_slash w.value then Ok what.Passed else Err (surplus head w.value)
