-- What an end captures in three values where its start comes late.
use Rattle.std.specs.Prelude.{◌≡◌, ℕ, ◌-◌, Bool, List, length, Option, Some, None, slice_get, slice_index, if◌then◌else◌}
use Rattle.net_model.specs.Cycles.{shown, reg_capture}
use Rattle.net_model.specs.Pins.{is_in}
use Rattle.net_model.specs.Layers.{net_at, held_set, pin_reads, late_reg_pins, AreLayers}
use Rattle.net_model.specs.Ternary.{tern_of}
use Rattle.net_model.specs.Splitting.{cell_value, tern_value}
use Rattle.net_model.specs.declared.netlist.Design.{Design}
use Rattle.net_model.specs.declared.netlist.Reg.{Reg}
use Rattle.net_model.specs.declared.claims.Claim.{Claim}
use Rattle.net_model.specs.declared.claims.PinRef.{PinRef}
use Rattle.net_model.specs.declared.claims.PinRef.TheVariants.{Net, OutPort}
use Rattle.net_model.specs.declared.claims.End.{End}
use Rattle.net_model.specs.declared.claims.End.TheVariants.{Reg as RegEnd, Output as OutputEnd}
use Rattle.net_model.specs.declared.terns.Tern.{Tern}
use Rattle.net_model.specs.declared.terns.Tern.TheVariants.{Zero}
use Rattle.firm_runs.specs.Cycles3.{tern_at}
use Rattle.firm_runs.specs.declared.cycles.Cycle3.{Cycle3}

-- the capture of the register of this number over these rows, if there is one
abbrev pub late_reg_capture3 : List (List PinRef) → List (List Tern) → ℕ → Option Reg → Tern → Tern
late_reg_capture3 sets rows r None own = Zero
late_reg_capture3 sets rows r (Some reg) own = cell_value (reg_capture reg) (late_reg_pins Zero sets rows r reg own)

-- the capture of an end over what its pins read in the last layer
abbrev pub capture3_over : Design → List (List PinRef) → List (List Tern) → End → Cycle3 → Tern
capture3_over d sets rows (RegEnd r) c = late_reg_capture3 sets rows r (slice_get d.regs r) (tern_at c.bits r)
capture3_over d sets rows (OutputEnd o) c = pin_reads Zero sets rows (length sets) (OutPort o) (slice_index d.outputs o)

-- the late capture: what the claim's end captures in a cycle where its start showed a stale bit in the first layer
pub record IsLateCapture3 (d : Design) (claim : Claim) (c : Cycle3) (stale : Bool) (late : Tern) : Type 0 where
  pub rows : List (List Tern)
  pub layers : AreLayers tern_value Zero d claim.start claim.through (λ o. tern_of (shown o stale)) c.nets rows
  pub capture : capture3_over d claim.through rows claim.end c ≡ late

-- the value that a net has in a layer before gates are settled: in the layer's set that of the layer before, and else that of
-- the cycle
abbrev pub first_tern : List (List PinRef) → List (List Tern) → ℕ → List Tern → ℕ → Tern
first_tern sets rows l base n = if is_in (Net n) (held_set sets l) then net_at Zero rows (l - 1) n else tern_at base n
