-- Nested commands, up to the `]` of the outermost.
use Rattle.std.specs.Prelude.{ℕ, zero, suc, ◌+◌, ◌-◌, Bool, true, false, ◌==◌, if◌then◌else◌, List, [], ◌∷◌, ◌++◌, length, drop, Some, None, Result, Ok, Err}
use Rattle.texts.specs.Rules.{◌>>=◌}
use Rattle.sdc_words.specs.declared.words.Word.{Word}
use Rattle.sdc_words.specs.declared.words.Word.TheVariants as word
use Rattle.script_types.specs.declared.faults.SdcFault.{SdcFault}
use Rattle.script_types.specs.declared.faults.SdcFault.TheVariants as fault
use Rattle.sdc_values.specs.declared.nested.Joined.{Joined}
use Rattle.sdc_values.specs.declared.nested_kinds.Nesting.{Nesting}
use Rattle.sdc_values.specs.declared.nested_kinds.NestedKind.{NestedKind}
use Rattle.sdc_values.specs.declared.nested_kinds.NestedKind.TheVariants as kind
use Rattle.script_types.specs.declared.objects.Object.{Object}
use Rattle.script_types.specs.declared.objects.Object.TheVariants as object
use Rattle.sdc_values.specs.Gets.{get_at, all_at, inputs_at}
use Rattle.sdc_values.specs.Lists.{objects_of}
use Rattle.sdc_values.specs.NestedKinds.{nested_kind}
use Rattle.sdc_values.specs.Texts.{value_by, said_text, text_within}
use Rattle.sdc_values.specs.Variables.{Vars}

-- A `list` joins the objects of its words, so of nested ones only how many are open is kept beside the objects so far. A
-- fault that has no word is told at the place of the outermost bracket.

-- the name of a nested command, which is a text
unfoldable pub name_at : Vars → ℕ → ℕ → List Word → Result (List ℕ) SdcFault
name_at vars line place [] = Err (fault.Syntax place)
name_at vars line place (word.Closes ∷ ws) = Err (fault.Syntax place)
name_at vars line place (word.Opens offset ∷ ws) = Err (fault.Syntax offset)
name_at vars line place (word.Text offset pieces ∷ ws) = value_by vars line offset pieces >>= λ value. text_within offset value

-- these objects too
abbrev pub with_objects : Joined → List Object → Joined
with_objects joined objects = record { opened = joined.opened; objects = joined.objects ++ objects }

abbrev pub opened_to : Joined → ℕ → Joined
opened_to joined opened = record { opened = opened; objects = joined.objects }

abbrev pub is_list : NestedKind → Bool
is_list kind.List = true
is_list other = false

-- the objects of a command of this name that is no `list`
unfoldable pub objects_at : Nesting → Vars → ℕ → ℕ → List ℕ → NestedKind → List Word → Result (List Object × List Word) SdcFault
objects_at nesting vars line place own kind.List ws = Ok ([], ws)
objects_at nesting vars line place own (kind.Get class) ws = get_at nesting vars line place own class ws
objects_at nesting vars line place own kind.AllInputs ws = inputs_at nesting vars line place own ws
objects_at nesting vars line place own kind.AllOutputs ws = all_at vars line place own object.AllOutputs ws
objects_at nesting vars line place own kind.AllRegisters ws = all_at vars line place own object.AllRegisters ws
objects_at nesting vars line place own kind.AllClocks ws = all_at vars line place own object.AllClocks ws

-- a nested command of this name and kind: a `list` more is open, or its objects are joined
unfoldable pub begins : Nesting → Vars → ℕ → ℕ → List ℕ → NestedKind → Joined → List Word → Result (Joined × List Word) SdcFault
begins nesting vars line place own kind joined ws =
    if is_list kind then Ok (opened_to joined (joined.opened + 1), ws)
    else (objects_at nesting vars line place own kind ws >>= λ p. Ok (with_objects joined p.0, p.1))

-- what follows a `[`
unfoldable pub enters : Nesting → Vars → ℕ → ℕ → Joined → List Word → Result (Joined × List Word) SdcFault
enters nesting vars line place joined ws = name_at vars line place ws >>= λ own. elim (nested_kind nesting own) [
  | Some kind ↦ begins nesting vars line place own kind joined (drop 1 ws)
  | None ↦ Err (fault.UnknownCommand line own)
]

-- in open lists: the `]` of the innermost, a word that says objects, or a `[`
unfoldable pub list_step : Nesting → Vars → ℕ → ℕ → Joined → List Word → Result (Joined × List Word) SdcFault
list_step nesting vars line place joined [] = Err (fault.Syntax place)
list_step nesting vars line place joined (word.Closes ∷ ws) = Ok (opened_to joined (joined.opened - 1), ws)
list_step nesting vars line place joined (word.Opens offset ∷ ws) = enters nesting vars line place joined ws
list_step nesting vars line place joined (word.Text offset pieces ∷ ws) =
    said_text vars line offset pieces >>= λ said. objects_of said >>= λ objects. Ok (with_objects joined objects, ws)

-- what all open lists join, in fewer than n steps
unfoldable pub lists_from : ℕ → Nesting → Vars → ℕ → ℕ → Joined → List Word → Result (List Object × List Word) SdcFault
lists_from zero nesting vars line place joined ws = Err (fault.Syntax place)
lists_from (suc n) nesting vars line place joined ws =
    if joined.opened == 0 then Ok (joined.objects, ws)
    else (list_step nesting vars line place joined ws >>= λ p. lists_from n nesting vars line place p.0 p.1)

-- each step has a word at least
abbrev pub lists_at : Nesting → Vars → ℕ → ℕ → Joined → List Word → Result (List Object × List Word) SdcFault
lists_at nesting vars line place joined ws = lists_from (suc (length ws)) nesting vars line place joined ws

-- the objects of the nested command whose `[` stands at this place, of a command on this line, and the words that follow
unfoldable pub nested_at : Nesting → Vars → ℕ → ℕ → List Word → Result (List Object × List Word) SdcFault
nested_at nesting vars line place ws = enters nesting vars line place (record { opened = 0; objects = [] }) ws >>= λ p. lists_at nesting vars line place p.0 p.1
