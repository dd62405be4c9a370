-- Texts of a kind that begin bytes, and where bytes stop being the beginning of one.
use Rattle.std.specs.Prelude.{◌≡◌, ◌≢◌, ◌⊎◌, ℕ, ◌+◌, ◌<◌, List, [], ◌∷◌, ◌++◌, length, not, ◌==◌, Bool, true, flat_map}
use Rattle.std.specs.List.{list_all, AllByRecursion}
use Rattle.cert_lines.specs.declared.faults.Fault.{Fault}
use Rattle.cert_lines.specs.declared.faults.Fault.TheVariants.{Form, Memory}

-- the bytes are the text of a value that fits
abbrev pub IsText : {V : Type 0} → (V → Type 0) → (V → List ℕ) → List ℕ → Type 0
IsText {V} Fits text x = (v : V) × Fits v × (x ≡ text v)

-- more bytes make them the text of a value that fits
abbrev pub BeginsIn : {V : Type 0} → (V → Type 0) → (V → List ℕ) → List ℕ → Type 0
BeginsIn {V} Fits text bytes = (more : List ℕ) × (v : V) × Fits v × (bytes ++ more ≡ text v)

-- no byte is a newline
abbrev pub is_inline : List ℕ → Bool
is_inline bytes = list_all (λ b. not (b == 10)) bytes

-- whole lines
abbrev pub IsWhole : List ℕ → Type 0
IsWhole front = (front ≡ []) ⊎ ((body : List ℕ) × (front ≡ body ++ 10 ∷ []))

-- one line with its newline, or the bytes after the last newline
abbrev pub IsOneLine : List ℕ → List ℕ → Type 0
IsOneLine line rest =
    ((body : List ℕ) × (is_inline body ≡ true) × (line ≡ body ++ 10 ∷ [])) ⊎ ((is_inline line ≡ true) × (0 < length line) × (rest ≡ []))

-- lines that begin a text of the kind, and then one with which they begin none
pub record BreaksAt {V : Type 0} (Fits : V → Type 0) (text : V → List ℕ) (bytes : List ℕ) (at : ℕ) : Type 0 where
  pub front : List ℕ
  pub line : List ℕ
  pub rest : List ℕ
  pub cut : bytes ≡ front ++ (line ++ rest)
  pub place : at ≡ length front
  pub whole : IsWhole front
  pub one : IsOneLine line rest
  pub begins : BeginsIn Fits text front
  pub breaks : BeginsIn Fits text (front ++ line) → ⊥

-- the bytes break off at that offset, or end early
abbrev pub StopsAt : {V : Type 0} → (V → Type 0) → (V → List ℕ) → List ℕ → ℕ → Type 0
StopsAt {V} Fits text bytes at = BreaksAt Fits text bytes at ⊎ ((at ≡ length bytes) × BeginsIn Fits text bytes)

-- no text of the kind stands here: the bytes stop at that offset
pub record Sticks {V : Type 0} (Fits : V → Type 0) (text : V → List ℕ) (bytes : List ℕ) (at : ℕ) : Type 0 where
  pub none : (v : V) → Fits v → (rest : List ℕ) → bytes ≢ text v ++ rest
  pub stops : StopsAt Fits text bytes at

-- no text of the kind begins the bytes, which stand at that place: the fault tells where they stop
abbrev pub IsFault : {V : Type 0} → (V → Type 0) → (V → List ℕ) → List ℕ → ℕ → Fault → Type 0
IsFault {V} Fits text bytes place (Form at) = (offset : ℕ) × (at ≡ place + offset) × Sticks Fits text bytes offset
IsFault {V} Fits text bytes place Memory = Unit {0}

-- so many values, each of which fits
pub record AreMany {V : Type 0} (many : ℕ) (Fits : V → Type 0) (vs : List V) : Type 0 where
  pub count : length vs ≡ many
  pub fit : AllByRecursion Fits vs

-- their texts, one after another
abbrev pub many_text : {V : Type 0} → (V → List ℕ) → List V → List ℕ
many_text {V} text vs = flat_map text vs
