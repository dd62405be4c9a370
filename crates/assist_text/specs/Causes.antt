-- Why a text is refused.
use Rattle.std.specs.Prelude.{◌≡◌, ℕ, ◌<◌, Bool, List, length, slice_get, Some, Contains}
use Rattle.sdcv_base.specs.declared.settings.Setting.{Setting}
use Rattle.assist_types.specs.declared.faults.AssistFault.{AssistFault}
use Rattle.assist_types.specs.declared.faults.AssistFault.TheVariants as fault
use Rattle.assist_text.specs.Lines.{Said, said_in}
use Rattle.assist_text.specs.Clauses.{word, IsWordOf}

-- one of these words is neither `NAME=0` nor `NAME=1`
abbrev pub HasOther : List (List ℕ) → Type 0
HasOther words = (w : List ℕ) × Contains words w × ((name : List ℕ) (value : Bool) → ¬ IsWordOf name value w)

-- two of these words give values to the name
pub record HasTwice (words : List (List ℕ)) (name : List ℕ) : Type 0 where
  pub first : ℕ
  pub second : ℕ
  pub differ : first < second
  pub values : Bool × Bool
  pub at_first : slice_get words first ≡ Some (word name values.0)
  pub at_second : slice_get words second ≡ Some (word name values.1)

-- why what lines say is refused; want of memory alone is free
abbrev pub IsCauseIn : List Said → AssistFault → Type 0
IsCauseIn said (fault.Syntax line) = (words : List (List ℕ)) × Contains said (line, words) × HasOther words
IsCauseIn said (fault.Twice line name) = (words : List (List ℕ)) × Contains said (line, words) × HasTwice words name
IsCauseIn said (fault.Many number) = (number ≡ 8193) × (8192 < length said)
IsCauseIn said fault.Memory = Unit {0}
IsCauseIn said (fault.UnknownRegister line name) = ⊥

abbrev pub IsCause : List ℕ → AssistFault → Type 0
IsCause text e = IsCauseIn (said_in text) e

-- the fault of a line with these words: one of them is none
abbrev pub IsWordCause : ℕ → List (List ℕ) → AssistFault → Type 0
IsWordCause line words (fault.Syntax number) = (number ≡ line) × HasOther words
IsWordCause line words fault.Memory = Unit {0}
IsWordCause line words e = ⊥

-- two settings have that name
pub record IsTwice (lits : List Setting) (name : List ℕ) : Type 0 where
  pub first : ℕ
  pub second : ℕ
  pub differ : first < second
  pub values : Bool × Bool
  pub at_first : slice_get lits first ≡ Some (record { name = name; value = values.0 })
  pub at_second : slice_get lits second ≡ Some (record { name = name; value = values.1 })

-- the fault of a line with these settings: a name stands twice
abbrev pub IsNameCause : ℕ → List Setting → AssistFault → Type 0
IsNameCause line lits (fault.Twice number name) = (number ≡ line) × IsTwice lits name
IsNameCause line lits fault.Memory = Unit {0}
IsNameCause line lits e = ⊥
