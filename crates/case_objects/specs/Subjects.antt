-- What two values of case analyses may be of: a data input or a load pin. There they must agree.
use Rattle.std.specs.Prelude.{◌≡◌, ◌≢◌, ℕ, ◌<◌, Bool, true, false, not, ◌&&◌, ◌==◌, List, take, length, All, Contains, Option, Some, None, slice_get}
use Rattle.std.specs.Option.{is_some}
use Rattle.net_model.specs.Paths.{LeadsTo}
use Rattle.net_model.specs.declared.netlist.Design.{Design}
use Rattle.net_model.specs.declared.claims.PinRef.TheVariants.{Net}
use Rattle.case_inputs.specs.Ties.{is_of}
use Rattle.case_objects.specs.declared.values.CaseValue.{CaseValue}
use Rattle.case_objects.specs.declared.subjects.Subject.{Subject}
use Rattle.case_objects.specs.declared.subjects.Subject.TheVariants.{Input, Load}

abbrev pub is_input : ℕ → Option ℕ → Bool
is_input i None = false
is_input i (Some j) = j == i

-- a value is of the data input that it fixes, and one that is assumed is of each load pin of its place, by the pin or by its net
abbrev pub is_about : Subject → CaseValue → Bool
is_about (Input i) v = is_input i v.input
is_about (Load pin net) v = not (is_some v.input) && is_of v.place pin net

-- a data input of the design, or a load pin of one of its nets
abbrev pub IsSubject : Design → Subject → Type 0
IsSubject d (Input i) = i < length d.inputs
IsSubject d (Load pin net) = LeadsTo d (Net net) pin

-- all values of it are the same
abbrev pub AgreeOn : Subject → List CaseValue → Type 0
AgreeOn s values = (a b : CaseValue) → Contains values a → Contains values b → is_about s a ≡ true → is_about s b ≡ true → a.value ≡ b.value

-- so are those of each data input and each load pin
abbrev pub Agree : Design → List CaseValue → Type 0
Agree d values = (s : Subject) → IsSubject d s → AgreeOn s values

-- one is given a value for the first time, and later the other one
pub record IsTwice (s : Subject) (values : List CaseValue) (first later : ℕ) : Type 0 where
  pub place : ℕ
  pub after : ℕ
  pub once : CaseValue
  pub again : CaseValue
  pub in_order : place < after
  pub at_first : slice_get values place ≡ Some once
  pub at_later : slice_get values after ≡ Some again
  pub of_it : is_about s once ≡ true
  pub of_it_too : is_about s again ≡ true
  pub differ : again.value ≢ once.value
  pub none_before : All (λ (v : CaseValue). is_about s v ≡ false) (take place values)
  pub first_line : once.line ≡ first
  pub later_line : again.line ≡ later
