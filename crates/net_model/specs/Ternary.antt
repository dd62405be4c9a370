-- Values that may be unknown, and the layers of a cycle in which the start is unknown (Eichelberger).
use Rattle.std.specs.Prelude.{◌≡◌, ◌<◌, ◌↔◌, ℕ, Bool, true, false, List, map, length, Option, Some, None, slice_get, slice_index}
use Rattle.net_model.specs.Form.{Form, value, IsOver}
use Rattle.net_model.specs.Rows.{Applied}
use Rattle.net_model.specs.Cycles.{reg_capture, bit_at}
use Rattle.net_model.specs.Layers.{AreLayers, late_reg_pins, pin_reads}
use Rattle.net_model.specs.declared.netlist.Design.{Design}
use Rattle.net_model.specs.declared.netlist.Reg.{Reg}
use Rattle.net_model.specs.declared.cycles.Cycle.{Cycle}
use Rattle.net_model.specs.declared.claims.Claim.{Claim}
use Rattle.net_model.specs.declared.claims.Start.{Start}
use Rattle.net_model.specs.declared.terns.Tern.{Tern}
use Rattle.net_model.specs.declared.terns.Tern.TheVariants.{Zero, One, Unknown}
use Rattle.net_model.specs.declared.claims.PinRef.{PinRef}
use Rattle.net_model.specs.declared.claims.PinRef.TheVariants.{OutPort}
use Rattle.net_model.specs.declared.claims.End.{End}
use Rattle.net_model.specs.declared.claims.End.TheVariants.{Reg as RegEnd, Output as OutputEnd}

-- a known bit
abbrev pub tern_of : Bool → Tern
tern_of false = Zero
tern_of true = One

-- a bit that the value may be
abbrev pub Completes : Tern → Bool → Type 0
Completes Zero b = b ≡ false
Completes One b = b ≡ true
Completes Unknown b = Unit {0}

-- a value is at most as known as another: each bit that the other may be, it may be
abbrev pub IsLessKnown : Tern → Tern → Type 0
IsLessKnown less more = (b : Bool) → Completes more b → Completes less b

-- the common value of a cell of at most seven places: a bit exactly where each way of setting the unknown places gives
-- this bit, and so else unknown
abbrev pub IsCommonValue : ((ℕ → Bool) → Bool) → (ℕ → Tern) → Tern → Type 0
IsCommonValue cell args result =
    (b : Bool) → (result ≡ tern_of b) ↔ ((bits : ℕ → Bool) → ((i : ℕ) → i < 7 → Completes (args i) (bits i)) → cell bits ≡ b)

-- a known value stays where places become known
abbrev pub StaysKnown : ((ℕ → Bool) → Bool) → (ℕ → Tern) → Tern → Type 0
StaysKnown cell args result =
    (more : ℕ → Tern) (other : Tern) → ((i : ℕ) → i < 7 → IsLessKnown (args i) (more i)) → IsCommonValue cell more other
    → (b : Bool) → result ≡ tern_of b → other ≡ tern_of b

-- each function of at most seven places is given its common value
abbrev pub GivesCommonValues : Applied Tern → Type 0
GivesCommonValues applied =
    (f : Form) (args : ℕ → Tern) → IsOver 7 f → IsCommonValue (value f) args (applied f args)

-- the layers in whose first one the start's nets are unknown; settled gates have the common value of their function
pub record AreTernaryLayers (d : Design) (start : Start) (sets : List (List PinRef)) (base : List Bool) (rows : List (List Tern)) : Type 0 where
  pub applied : Applied Tern
  pub common : GivesCommonValues applied
  pub layers : AreLayers applied Zero d start sets (λ _. Unknown) (map tern_of base) rows

-- the capture of the register of this number over these rows: the common value of its whole capture, taken as one cell
abbrev pub IsTernaryRegCapture : List (List PinRef) → List (List Tern) → ℕ → Option Reg → Bool → Tern → Type 0
IsTernaryRegCapture sets rows r None own late = Zero ≡ late
IsTernaryRegCapture sets rows r (Some reg) own late =
    IsCommonValue (reg_capture reg) (late_reg_pins Zero sets rows r reg (tern_of own)) late

-- the capture of an end over what its pins read in the last layer
abbrev pub IsTernaryCaptureOver : Design → List (List PinRef) → List (List Tern) → End → Cycle → Tern → Type 0
IsTernaryCaptureOver d sets rows (RegEnd r) c late = IsTernaryRegCapture sets rows r (slice_get d.regs r) (bit_at c.bits r) late
IsTernaryCaptureOver d sets rows (OutputEnd o) c late =
    pin_reads Zero sets rows (length sets) (OutPort o) (slice_index d.outputs o) ≡ late

-- the ternary capture: what the claim's end captures in a cycle where its start is unknown in the first layer
pub record IsTernaryCapture (d : Design) (claim : Claim) (c : Cycle) (late : Tern) : Type 0 where
  pub rows : List (List Tern)
  pub layers : AreTernaryLayers d claim.start claim.through c.nets rows
  pub capture : IsTernaryCaptureOver d claim.through rows claim.end c late
