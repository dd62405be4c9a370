-- Brackets among the words of a delay: one is passed as a whole, or it says objects, and may take some of them out.
use Rattle.std.specs.Prelude.{ℕ, zero, suc, ◌+◌, Bool, false, if◌then◌else◌, List, [], ◌∷◌, length, drop, Option, Some, None, Result, Ok, Err}
use Rattle.texts.specs.Rules.{◌>>=◌}
use Rattle.sdc_words.specs.declared.words.Piece.TheVariants.{Bytes}
use Rattle.sdc_words.specs.declared.words.Word.{Word}
use Rattle.sdc_words.specs.declared.words.Word.TheVariants as word
use Rattle.script_types.specs.declared.faults.SdcFault.{SdcFault}
use Rattle.script_types.specs.declared.faults.SdcFault.TheVariants as fault
use Rattle.script_types.specs.declared.objects.Object.{Object}
use Rattle.sdc_values.specs.declared.nested_kinds.Nesting.TheVariants.{Wide}
use Rattle.sdc_values.specs.declared.values.Said.{Said}
use Rattle.sdc_values.specs.declared.values.Value.{Value}
use Rattle.sdc_values.specs.declared.values.Value.TheVariants.{Text, Objects}
use Rattle.sdc_values.specs.Gets.{closes}
use Rattle.sdc_values.specs.Lists.{objects_of}
use Rattle.sdc_values.specs.Nested.{nested_at}
use Rattle.sdc_values.specs.NestedKinds.{is_option, is_removal}
use Rattle.sdc_values.specs.Texts.{said_text}
use Rattle.sdc_values.specs.Variables.{Vars}

-- how many brackets are open within a bracket after a word, and none where the word ends the bracket itself
abbrev pub depth_after : Word → ℕ → Option ℕ
depth_after (word.Text offset pieces) n = Some n
depth_after (word.Opens offset) n = Some (n + 1)
depth_after word.Closes zero = None
depth_after word.Closes (suc n) = Some n

-- what follows the `]` of a bracket within which this many are open
unfoldable pub after_bracket : ℕ → List Word → List Word
after_bracket n [] = []
after_bracket n (w ∷ ws) = elim (depth_after w n) [
  | Some m ↦ after_bracket m ws
  | None ↦ ws
]

-- the next word is the name of a removal
abbrev pub removes : List Word → Bool
removes (word.Text offset (Bytes name ∷ []) ∷ ws) = is_removal name
removes ws = false

-- a value is an option where options may stand
abbrev pub says_option : Value → Bool
says_option (Text text) = is_option text
says_option (Objects objects) = false

-- the objects that a word with no option says; a fault is told at the word
unfoldable pub plain_objects : Said → Result (List Object) SdcFault
plain_objects said = if says_option said.value then Err (fault.Syntax said.offset) else objects_of said

-- how what follows the `[` at a place is read
abbrev pub Reading : Type 0
Reading = ℕ → List Word → Result (List Object × List Word) SdcFault

-- the objects of the first word, and what follows it, by how nested commands are read; the `[` around it stands at this place
unfoldable pub word_at : Reading → Vars → ℕ → ℕ → List Word → Result (List Object × List Word) SdcFault
word_at nested vars line place [] = Err (fault.Syntax place)
word_at nested vars line place (word.Closes ∷ ws) = Err (fault.Syntax place)
word_at nested vars line place (word.Opens offset ∷ ws) = nested offset ws
word_at nested vars line place (word.Text offset pieces ∷ ws) =
    said_text vars line offset pieces >>= λ said. plain_objects said >>= λ objects. Ok (objects, ws)

-- the objects of the first of two words, and what follows the `]` after the second
unfoldable pub first_of_two : Reading → Vars → ℕ → ℕ → List Word → Result (List Object × List Word) SdcFault
first_of_two nested vars line place ws =
    word_at nested vars line place ws >>= λ a. word_at nested vars line place a.1 >>= λ b.
    if closes b.1 then Ok (a.0, drop 1 b.1) else Err (fault.Syntax place)

-- the objects of the nested command whose `[` stands at this place, and the words that follow; those of a removal are what it
-- takes others out of, which may be a removal too; of fewer than n
unfoldable pub collection_from : ℕ → Vars → ℕ → ℕ → List Word → Result (List Object × List Word) SdcFault
collection_from zero vars line place ws = Err (fault.Syntax place)
collection_from (suc n) vars line place ws =
    if removes ws then first_of_two (collection_from n vars line) vars line place (drop 1 ws) else nested_at Wide vars line place ws

-- each has a word at least
abbrev pub collection_at : Vars → ℕ → ℕ → List Word → Result (List Object × List Word) SdcFault
collection_at vars line place ws = collection_from (suc (length ws)) vars line place ws
