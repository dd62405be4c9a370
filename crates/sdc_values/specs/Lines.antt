-- What the words of a command say.
use Rattle.std.specs.Prelude.{ℕ, zero, suc, List, [], ◌∷◌, ◌++◌, length, Result, Ok, Err}
use Rattle.texts.specs.Rules.{◌>>=◌}
use Rattle.sdc_words.specs.declared.words.Word.{Word}
use Rattle.sdc_words.specs.declared.words.Word.TheVariants as word
use Rattle.script_types.specs.declared.faults.SdcFault.{SdcFault}
use Rattle.script_types.specs.declared.faults.SdcFault.TheVariants as fault
use Rattle.sdc_values.specs.declared.nested_kinds.Nesting.{Nesting}
use Rattle.sdc_values.specs.declared.values.Said.{Said}
use Rattle.sdc_values.specs.declared.values.Value.TheVariants.{Objects}
use Rattle.sdc_values.specs.Variables.{Vars}
use Rattle.sdc_values.specs.Texts.{value_by, said_text, text_within}
use Rattle.sdc_values.specs.Nested.{nested_at}

-- the first word says something more, and what follows it; a `]` that closes nothing says nothing
unfoldable pub adds_word : Nesting → Vars → ℕ → List Said → List Word → Result (List Said × List Word) SdcFault
adds_word nesting vars line said [] = Ok (said, [])
adds_word nesting vars line said (word.Text offset pieces ∷ ws) = said_text vars line offset pieces >>= λ s. Ok (said ++ s ∷ [], ws)
adds_word nesting vars line said (word.Opens offset ∷ ws) =
    nested_at nesting vars line offset ws >>= λ p. Ok (said ++ record { offset = offset; value = Objects p.0 } ∷ [], p.1)
adds_word nesting vars line said (word.Closes ∷ ws) = Ok (said, ws)

-- what all these words say, after what was said before; of at most n words
unfoldable pub said_from : ℕ → Nesting → Vars → ℕ → List Said → List Word → Result (List Said) SdcFault
said_from n nesting vars line said [] = Ok said
said_from zero nesting vars line said (w ∷ ws) = Ok said
said_from (suc n) nesting vars line said (w ∷ ws) = adds_word nesting vars line said (w ∷ ws) >>= λ p. said_from n nesting vars line p.0 p.1

-- what the words of a command on this line say
abbrev pub said_words : Nesting → Vars → ℕ → List Word → Result (List Said) SdcFault
said_words nesting vars line words = said_from (length words) nesting vars line [] words

-- the name that its first word gives a command: it has to be a text
unfoldable pub command_name : Vars → ℕ → List Word → Result (List ℕ) SdcFault
command_name vars line [] = Ok []
command_name vars line (word.Text offset pieces ∷ ws) = value_by vars line offset pieces >>= λ value. text_within offset value
command_name vars line (word.Opens offset ∷ ws) = Err (fault.Syntax offset)
command_name vars line (word.Closes ∷ ws) = Ok []
