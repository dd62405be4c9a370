-- The stimulus of a pair in a report.
use Rattle.std.specs.Prelude.{◌≡◌, ◌⊎◌, ℕ, ◌==◌, Bool, false, List, ◌++◌, length, map, find, codes, Option, Some, None, MatchBool}
use Rattle.net_model.specs.declared.cycles.Stimulus.{Stimulus}
use Rattle.serde_json.specs.Data.{Data}
use Rattle.serde_json.specs.View.{view}
use Rattle.serde_json.specs.Find.{get, as_str}
use Rattle.texts.specs.Reads.{◌>>=◌}
use Rattle.witness_replay.specs.StimulusTexts.{line_of, head_of}
use Rattle.witness_replay.specs.Blocks.{HasFirstBlock, IsStimCause}
use Rattle.witness_replay.specs.declared.faults.StimFault.{StimFault}
use Rattle.witness_replay.specs.declared.faults.StimFault.TheVariants.{NoBlock, Form, Memory}
use Rattle.report_rows.specs.Members.{text_in, count_in, list_in, with_all}
use Rattle.report_rows.specs.Reads.{is_json, IsValueOf}
use Rattle.report_rows.specs.declared.stimuli.StimulusMembers.{StimulusMembers}

abbrev pub is_number : ℕ → Option ℕ → Bool
is_number number None = false
is_number number (Some n) = n == number

-- the first pair of this number
abbrev pub pair_numbered : ℕ → List Data → Option Data
pair_numbered number pairs = find (λ pair. is_number number (count_in (codes "number") pair)) pairs

-- the members of a stimulus: the text of its state, and the values of its inputs
pub record Members : Type 0 where
  pub state : List ℕ
  pub inputs : List Data

abbrev pub seen_members : StimulusMembers → Members
seen_members m = record { state = m.state.now; inputs = map view m.inputs.now }

-- those of the stimulus of the pair of this number
unfoldable pub members_of : ℕ → Data → Option Members
members_of number d =
    list_in (codes "pairs") d >>= λ pairs. pair_numbered number pairs >>= λ pair. get (codes "stimulus") pair >>= λ stimulus.
    text_in (codes "state") stimulus >>= λ state. list_in (codes "inputs") stimulus >>= λ inputs. Some (record { state = state; inputs = inputs })

-- a text with the line of a cycle's input bits more
abbrev pub with_input : List ℕ → Data → Option (List ℕ)
with_input text d = as_str d >>= λ bits. Some (text ++ line_of (codes "input " ++ bits))

-- the lines of a block before its inputs
abbrev pub front : ℕ → ℕ → List ℕ → List ℕ
front number count state = line_of (head_of number count) ++ line_of (codes "state " ++ state)

-- the block of a stimulus, as a report by lines has it
unfoldable pub block_of : ℕ → Members → Option (List ℕ)
block_of number m = with_all with_input (front number (length m.inputs) m.state) m.inputs >>= λ text. Some (text ++ line_of (codes "end"))

unfoldable pub block_in : ℕ → Data → Option (List ℕ)
block_in number d = members_of number d >>= block_of number

-- the JSON text has a block of this number, which is that of the stimulus
pub record IsJsonStimulus (text : List ℕ) (number : ℕ) (s : Stimulus) : Type 0 where
  pub d : Data
  pub value : IsValueOf text d
  pub block : List ℕ
  pub written : block_in number d ≡ Some block
  pub is : HasFirstBlock number block s

-- the JSON text has a block of this number, which is none of a stimulus
pub record IsBadBlock (text : List ℕ) (number : ℕ) (e : StimFault) : Type 0 where
  pub d : Data
  pub value : IsValueOf text d
  pub block : List ℕ
  pub written : block_in number d ≡ Some block
  pub cause : IsStimCause number block e

-- no JSON text, or one without a block of this number
abbrev pub HasNoBlock : List ℕ → ℕ → Type 0
HasNoBlock text number = (d : Data) → IsValueOf text d → block_in number d ≡ None

abbrev pub IsJsonStimulusCause : List ℕ → ℕ → StimFault → Type 0
IsJsonStimulusCause text number NoBlock = HasNoBlock text number ⊎ IsBadBlock text number NoBlock
IsJsonStimulusCause text number (Form line) = IsBadBlock text number (Form line)
IsJsonStimulusCause text number Memory = Unit {0}

-- the stimulus of the pair of this number
abbrev pub IsStimulusIn : List ℕ → ℕ → Stimulus → Type 0
IsStimulusIn text number s = MatchBool (is_json text) (IsJsonStimulus text number s) (HasFirstBlock number text s)

-- why there is none
abbrev pub IsStimulusCause : List ℕ → ℕ → StimFault → Type 0
IsStimulusCause text number e = MatchBool (is_json text) (IsJsonStimulusCause text number e) (IsStimCause number text e)
