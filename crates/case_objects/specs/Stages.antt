-- What the stages of comparing values hand on.
use Rattle.std.specs.Prelude.{◌≡◌, ℕ, ◌<◌, Bool, true, false, not, ◌&&◌, List, take, length, All, Option, Some, None, slice_get}
use Rattle.net_model.specs.declared.netlist.Design.{Design}
use Rattle.net_model.specs.declared.claims.PinRef.{PinRef}
use Rattle.net_model.specs.declared.claims.PinRef.TheVariants.{GateIn, RegIn, OutPort}
use Rattle.selected_types.specs.declared.faults.ExpandFault.{ExpandFault}
use Rattle.case_objects.specs.declared.values.CaseValue.{CaseValue}
use Rattle.case_objects.specs.declared.subjects.Subject.{Subject}
use Rattle.case_objects.specs.declared.subjects.Subject.TheVariants.{Load}
use Rattle.case_objects.specs.declared.loads.Owner.{Owner}
use Rattle.case_objects.specs.declared.loads.Owner.TheVariants as owner
use Rattle.case_objects.specs.Subjects.{is_about, AgreeOn}
use Rattle.case_objects.specs.Causes.{IsTwiceOf}

-- the first of the values that is of a subject
abbrev pub IsFirst : Subject → List CaseValue → Option ℕ → Type 0
IsFirst s values None = All (λ (v : CaseValue). is_about s v ≡ false) values
IsFirst s values (Some k) =
    (v : CaseValue) × (slice_get values k ≡ Some v) × (is_about s v ≡ true) × All (λ (w : CaseValue). is_about s w ≡ false) (take k values)

-- two bits are not the same
abbrev pub differs : Bool → Bool → Bool
differs true b = not b
differs false b = b

-- a value is of a subject, and the other one
abbrev pub is_other : Subject → Bool → CaseValue → Bool
is_other s bit v = is_about s v && differs v.value bit

-- a value of a subject that is the other one
abbrev pub IsOther : Subject → Bool → List CaseValue → Option ℕ → Type 0
IsOther s bit values None = All (λ (v : CaseValue). is_other s bit v ≡ false) values
IsOther s bit values (Some k) = (v : CaseValue) × (slice_get values k ≡ Some v) × (is_other s bit v ≡ true)

-- the load pin of a gate, of a register, or of the outputs, at a place
abbrev pub load_pin : Owner → ℕ → PinRef
load_pin (owner.Gate k) place = GateIn k place
load_pin (owner.Reg r) place = RegIn r place
load_pin owner.Ports place = OutPort place

-- the values agree on the load pins of an owner that reads these nets
abbrev pub AgreeOnPins : List CaseValue → Owner → List ℕ → Type 0
AgreeOnPins values own nets = (i net : ℕ) → slice_get nets i ≡ Some net → AgreeOn (Load (load_pin own i) net) values

-- one of them is given two values
abbrev pub IsPinTwice : List CaseValue → Owner → List ℕ → ExpandFault → Type 0
IsPinTwice values own nets e = (i net : ℕ) × (slice_get nets i ≡ Some net) × IsTwiceOf (Load (load_pin own i) net) values e

-- the number of a data input, if it is one
abbrev pub IsInputOf : Design → Option ℕ → Type 0
IsInputOf d None = Unit {0}
IsInputOf d (Some i) = i < length d.inputs
