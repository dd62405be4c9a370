-- Words that are no nested commands: their texts, with the values of variables in them.
use Rattle.std.specs.Prelude.{ℕ, List, [], ◌∷◌, ◌++◌, Option, Some, None, Result, Ok, Err}
use Rattle.texts.specs.Rules.{◌>>=◌}
use Rattle.sdc_words.specs.declared.words.Piece.{Piece}
use Rattle.sdc_words.specs.declared.words.Piece.TheVariants.{Bytes, Variable}
use Rattle.script_types.specs.declared.faults.SdcFault.{SdcFault}
use Rattle.script_types.specs.declared.faults.SdcFault.TheVariants as fault
use Rattle.sdc_values.specs.declared.values.Said.{Said}
use Rattle.sdc_values.specs.declared.values.Value.{Value}
use Rattle.sdc_values.specs.declared.values.Value.TheVariants.{Text, Objects}
use Rattle.sdc_values.specs.Variables.{Vars, value_of}
use Rattle.sdcv_base.specs.Steps.{after_all}

-- the value of a variable, for a command on this line
unfoldable pub variable_of : Vars → ℕ → List ℕ → Result Value SdcFault
variable_of vars line name = elim (value_of name vars) [
  | Some value ↦ Ok value
  | None ↦ Err (fault.UnknownVariable line name)
]

-- the text of a value within the word at this offset: a list of objects may only be a whole word
abbrev pub text_within : ℕ → Value → Result (List ℕ) SdcFault
text_within offset (Text text) = Ok text
text_within offset (Objects objects) = Err (fault.Syntax offset)

-- the text of a piece
abbrev pub piece_text : Vars → ℕ → ℕ → Piece → Result (List ℕ) SdcFault
piece_text vars line offset (Bytes bytes) = Ok bytes
piece_text vars line offset (Variable name) = variable_of vars line name >>= λ value. text_within offset value

-- a text and that of a piece after it
unfoldable pub adds_piece : Vars → ℕ → ℕ → List ℕ → Piece → Result (List ℕ) SdcFault
adds_piece vars line offset found piece = piece_text vars line offset piece >>= λ text. Ok (found ++ text)

-- the variable that the pieces are alone
abbrev pub lone_variable : List Piece → Option (List ℕ)
lone_variable (Variable name ∷ []) = Some name
lone_variable pieces = None

-- the value of pieces: that of a lone variable, or else their texts, one after the other
unfoldable pub value_by : Vars → ℕ → ℕ → List Piece → Result Value SdcFault
value_by vars line offset pieces = elim (lone_variable pieces) [
  | Some name ↦ variable_of vars line name
  | None ↦ after_all (adds_piece vars line offset) [] pieces >>= λ text. Ok (Text text)
]

-- what a word of these pieces says, at this offset of a command on this line
abbrev pub said_text : Vars → ℕ → ℕ → List Piece → Result Said SdcFault
said_text vars line offset pieces = value_by vars line offset pieces >>= λ value. Ok (record { offset = offset; value = value })
