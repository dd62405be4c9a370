-- The first block of a number in a report.
use Rattle.std.specs.Prelude.{◌≡◌, ℕ, ◌<◌, ◌+◌, ◌^◌, ◌==◌, ◌||◌, nat_eq, Bool, false, if◌then◌else◌, List, [], ◌∷◌, ◌++◌, flat_map, length, All}
use Rattle.std.specs.Prelude.{Result, Ok, Err}
use Rattle.std.specs.List.{onto_first, starts_with}
use Rattle.std.specs.Str.{bytes_eq}
use Rattle.net_model.specs.declared.cycles.Stimulus.{Stimulus}
use Rattle.witness_replay.specs.StimulusTexts.{line_of, title_of, block_lines, block_text}
use Rattle.witness_replay.specs.declared.faults.StimFault.{StimFault}
use Rattle.witness_replay.specs.declared.faults.StimFault.TheVariants.{NoBlock, Form, Memory}

-- the lines of a text: it is cut at newlines, and a last piece without one is a line too
unfoldable pub lines : List ℕ → List (List ℕ)
lines [] = []
lines (b ∷ bs) = if b == 10 then [] ∷ lines bs else onto_first b (lines bs)

-- whether a block of this title begins at a line: it is the title, or begins with the title and a space
abbrev pub begins : List ℕ → List ℕ → Bool
begins title line = bytes_eq line title || starts_with nat_eq line (title ++ 32 ∷ [])

-- the lines from the first one on at which a block of this title begins
unfoldable pub from_block : List ℕ → List (List ℕ) → List (List ℕ)
from_block title [] = []
from_block title (line ∷ others) = if begins title line then line ∷ others else from_block title others

-- the report's lines from the first block of this number on
abbrev pub block_in : ℕ → List ℕ → List (List ℕ)
block_in number report = from_block (title_of number) (lines report)

-- the first block of this number is that of the stimulus, whatever lines follow it
pub record HasFirstBlock (number : ℕ) (report : List ℕ) (s : Stimulus) : Type 0 where
  pub others : List (List ℕ)
  pub is : block_in number report ≡ block_lines number s ++ others

-- the block of some stimulus begins with these lines; it has as many cycles as a number of 64 bits can say
pub record StartsBlock (number : ℕ) (good : List (List ℕ)) : Type 0 where
  pub s : Stimulus
  pub fits : length s.inputs < 2 ^ 64
  pub others : List (List ℕ)
  pub is : block_lines number s ≡ good ++ others

-- the first block of this number breaks its form at that line, counted from 1 in the report: with the lines before it some
-- block begins, and with it too none does; or the report ends before it, and the block is not whole
pub record IsBrokenAt (number : ℕ) (report : List ℕ) (line : ℕ) : Type 0 where
  pub good : List (List ℕ)
  pub rest : List (List ℕ)
  pub begins : 0 < length (block_in number report)
  pub cut : block_in number report ≡ good ++ rest
  pub place : line + length rest ≡ length (lines report) + 1
  pub starts : StartsBlock number good
  pub breaks : (next : List ℕ) (others : List (List ℕ)) → rest ≡ next ∷ others → ¬ StartsBlock number (good ++ next ∷ [])
  pub none : (s : Stimulus) → ¬ HasFirstBlock number report s

-- why a report has no stimulus of this number
abbrev pub IsStimCause : ℕ → List ℕ → StimFault → Type 0
IsStimCause number report NoBlock = block_in number report ≡ []
IsStimCause number report (Form line) = IsBrokenAt number report line
IsStimCause number report Memory = Unit {0}

-- what `write_stim` writes for the stimulus stands in the report, after lines at none of which a block of this number
-- begins, and before any text
pub record IsWritten (number : ℕ) (report : List ℕ) (s : Stimulus) : Type 0 where
  pub before : List (List ℕ)
  pub after : List ℕ
  pub is : report ≡ flat_map line_of before ++ block_text number s ++ after
  pub none : All (λ line. begins (title_of number) line ≡ false) (lines (flat_map line_of before))

-- the answer is the stimulus, unless memory ran out
abbrev pub Recalls : Result Stimulus StimFault → Stimulus → Type 0
Recalls (Ok t) s = t ≡ s
Recalls (Err e) s = e ≡ Memory
