-- How the stages of a run follow one another.
use Rattle.std.specs.Prelude.{◌≡◌, ◌⊎◌, ℕ, List, [], ◌∷◌, Ok, Err}
use Rattle.design_stages.specs.Stages.{Found}
use Rattle.sdcv_top.specs.Outcomes.{Outcome, refused}
use Rattle.sdcv_top.specs.Reads.{Got}

-- what is due, for what the reads to come answer
abbrev pub Due : Type 1
Due = List Got → Outcome → Type 0

-- a stage finds a value, and by it the rest is due; or it refuses the run, and nothing more is read
unfoldable pub After : {A : Type 0} → (Found A → Type 0) → (A → Due) → Due
After {A = A} Finds next reads due =
    ((value : A) × Finds (Ok value) × next value reads due)
    ⊎ ((line : List ℕ) × Finds (Err line) × (reads ≡ []) × (due ≡ refused line))

-- the same of a stage that first reads a text
unfoldable pub AfterText : {A : Type 0} → (Got → Found A → Type 0) → (A → Due) → Due
AfterText Finds next [] due = ⊥
AfterText Finds next (got ∷ reads) due = After (Finds got) next reads due

-- the last stage: nothing more is read, and this is due
abbrev pub Last : (Outcome → Type 0) → Due
Last R reads due = (reads ≡ []) × R due

-- a stage, and what is due after it
infixl 10 ◌>>=◌
abbrev pub ◌>>=◌ : {A : Type 0} → ((A → Due) → Due) → (A → Due) → Due
stage >>= next = stage next
