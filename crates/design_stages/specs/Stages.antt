-- What a stage of a run stands for, and how one follows another.
use Rattle.std.specs.Prelude.{◌≡◌, ◌⊎◌, ℕ, List, Option, Some, Result, Ok, Err}
use Rattle.design_stages.specs.declared.refusals.Refusal.{Refusal}
use Rattle.design_stages.specs.declared.refusals.Refusal.TheVariants as refusal

-- what a stage finds: its value, or the line with which it refuses the run
abbrev pub Found : Type 0 → Type 0
Found A = Result A (List ℕ)

-- a stage finds what a part of the program answers, and refuses with the line of its fault; want of memory has no line,
-- so no stage finds it
abbrev pub Staged : {A E : Type 0} → (Result A E → Type 0) → (E → Option (List ℕ)) → Found A → Type 0
Staged Answers line (Ok value) = Answers (Ok value)
Staged {E = E} Answers line (Err text) = (fault : E) × Answers (Err fault) × (line fault ≡ Some text)

-- a stage found this, or memory was wanting
abbrev pub Finds : {A : Type 0} → (Found A → Type 0) → Result A Refusal → Type 0
Finds R (Ok value) = R (Ok value)
Finds R (Err (refusal.Line line)) = R (Err line.items)
Finds R (Err refusal.Memory) = Unit {0}

-- a stage finds a value, and the next one goes on with it; the first line of a refusal is that of both
unfoldable pub Then : {A B : Type 0} → (Found A → Type 0) → (A → Found B → Type 0) → Found B → Type 0
Then {A = A} First Next (Ok value) = (a : A) × First (Ok a) × Next a (Ok value)
Then {A = A} First Next (Err line) = First (Err line) ⊎ ((a : A) × First (Ok a) × Next a (Err line))

infixl 10 ◌>>=◌
abbrev pub ◌>>=◌ : {A B : Type 0} → (Found A → Type 0) → (A → Found B → Type 0) → Found B → Type 0
First >>= Next = Then First Next
