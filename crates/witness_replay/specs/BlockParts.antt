-- What the parts of a block's reader say of the lines that are left.
use Rattle.std.specs.Prelude.{◌≡◌, ◌≢◌, ℕ, ◌<◌, ◌+◌, ◌^◌, Bool, List, ◌∷◌, ◌++◌, length, map}
use Rattle.net_model.specs.declared.cycles.Stimulus.{Stimulus}
use Rattle.witness_replay.specs.StimulusTexts.{digits_of, input_line, block_lines}
use Rattle.witness_replay.specs.Blocks.{lines, StartsBlock}
use Rattle.witness_replay.specs.declared.faults.StimFault.{StimFault}
use Rattle.witness_replay.specs.declared.faults.StimFault.TheVariants.{NoBlock, Form, Memory}
use Rattle.witness_replay.specs.declared.lines.Lines.{Lines}

-- the lines that are left
abbrev pub left : Lines → List (List ℕ)
left l = lines l.rest.now

-- the number of the next line, from 1
abbrev pub next_number : Lines → ℕ
next_number l = l.passed + 1

-- no line of the word and some bits comes next
abbrev pub LacksRow : List ℕ → List (List ℕ) → Type 0
LacksRow word ls = (bits : List Bool) (others : List (List ℕ)) → ls ≢ (word ++ digits_of bits) ∷ others

-- the fault is at the next line, where what is due is missing
abbrev pub IsMissing : ℕ → Type 0 → StimFault → Type 0
IsMissing next missing NoBlock = ⊥
IsMissing next missing (Form line) = (line ≡ next) × missing
IsMissing next missing Memory = Unit {0}

-- fewer lines of input bits come next than are due, and then another line or none, which has that number
pub record LackInputs (count : ℕ) (ls : List (List ℕ)) (next line : ℕ) : Type 0 where
  pub rows : List (List Bool)
  pub rest : List (List ℕ)
  pub few : length rows < count
  pub cut : ls ≡ map input_line rows ++ rest
  pub place : line ≡ next + length rows
  pub lacks : (bits : List Bool) (others : List (List ℕ)) → rest ≢ input_line bits ∷ others

abbrev pub IsInputFault : ℕ → List (List ℕ) → ℕ → StimFault → Type 0
IsInputFault count ls next NoBlock = ⊥
IsInputFault count ls next (Form line) = LackInputs count ls next line
IsInputFault count ls next Memory = Unit {0}

-- after good lines the block of a stimulus goes on with another line than these lines have there
pub record IsStuck (number : ℕ) (ls : List (List ℕ)) (next line : ℕ) : Type 0 where
  pub good : List (List ℕ)
  pub rest : List (List ℕ)
  pub cut : ls ≡ good ++ rest
  pub place : line ≡ next + length good
  pub starts : StartsBlock number good
  pub stops : (s : Stimulus) (others more : List (List ℕ)) → length s.inputs < 2 ^ 64 → block_lines number s ++ others ≡ good ++ more
      → (due : List ℕ) × (after : List (List ℕ)) × (more ≡ due ∷ after) × ((tail : List (List ℕ)) → rest ≢ due ∷ tail)

abbrev pub IsBlockFault : ℕ → List (List ℕ) → ℕ → StimFault → Type 0
IsBlockFault number ls next NoBlock = ⊥
IsBlockFault number ls next (Form line) = IsStuck number ls next line
IsBlockFault number ls next Memory = Unit {0}

-- the lines are those of the stimulus's block, and others
pub record ReadsBlock (number : ℕ) (ls : List (List ℕ)) (s : Stimulus) : Type 0 where
  pub fits : length s.inputs < 2 ^ 64
  pub others : List (List ℕ)
  pub is : ls ≡ block_lines number s ++ others
