-- What the end of a claim captures of what its pins read in the last ternary layer.
use Rattle.std.proofs.Common.{◌≡◌, ℕ, ◌+◌, ◌<◌, Bool, false, List, length, Some, sym, ◌∙◌}
use Rattle.std.specs.Prelude.{slice_get, slice_index}
use Rattle.std.proofs.lemmas.Option.{get_or_from_slice_get}
use Rattle.net_model.specs.Netlist.{IsSound}
use Rattle.net_model.specs.Cycles.{bit_at, reg_capture}
use Rattle.net_model.specs.Layers.{pin_reads, late_reg_pins}
use Rattle.net_model.specs.Ternary.{tern_of, IsCommonValue, IsTernaryCaptureOver}
use Rattle.net_model.specs.Splitting.{cell_value}
use Rattle.net_model.specs.Completions.{common_once, cell_common}
use Rattle.net_model.proofs.TernaryOnce.{tern_capture_over, cell_agrees, reads_capture, reads_seven, ternary_over}
use Rattle.net_model.specs.declared.netlist.Design.{Design}
use Rattle.net_model.specs.declared.netlist.Reg.{Reg}
use Rattle.net_model.specs.declared.cycles.Cycle.{Cycle}
use Rattle.net_model.specs.declared.terns.Tern.{Tern}
use Rattle.net_model.specs.declared.terns.Tern.TheVariants.{Zero}
use Rattle.net_model.specs.declared.claims.PinRef.{PinRef}
use Rattle.net_model.specs.declared.claims.PinRef.TheVariants.{OutPort}
use Rattle.net_model.specs.declared.claims.End.{End}
use Rattle.net_model.specs.declared.claims.End.TheVariants.{Reg as RegEnd, Output as OutputEnd}

-- what an end register captures of these places
pub ternary_read : (d : Design) (sets : List (List PinRef)) (rows : List (List Tern)) (e : End) (c : Cycle) (r : ℕ) (reg : Reg) (own : Bool) (args : ℕ
    → Tern) (result : Tern) → IsSound d → e ≡ RegEnd r → slice_get d.regs r ≡ Some reg → slice_get c.bits r ≡ Some own
    → ((i : ℕ) → i < length reg.ins + 1 → args i ≡ late_reg_pins Zero sets rows r reg (tern_of own) i) → IsCommonValue
    (reg_capture reg) args result → IsTernaryCaptureOver d sets rows e c result
ternary_read d sets rows e c r reg own args result sound end_is at bit same is =
    let here : bit_at c.bits r ≡ own = get_or_from_slice_get c.bits r own false bit in
    let pins = late_reg_pins Zero sets rows r reg (tern_of own) in
    let cell = reg_capture reg in
    let value : cell_value cell pins ≡ result =
    sym (cell_agrees cell (length reg.ins + 1) args pins (reads_capture d r reg sound at) same)
    ∙ common_once cell args (cell_value cell args) result (cell_common cell args (reads_seven d r reg sound at)) is in
    let computed : tern_capture_over d sets rows e c ≡ result = rw (end_is, at, here) value in
    ternary_over d sets rows e c result sound computed

-- what an end output reads
pub ternary_output : (d : Design) (sets : List (List PinRef)) (rows : List (List Tern)) (e : End) (c : Cycle) (o net : ℕ) (result : Tern) → IsSound d
    → e ≡ OutputEnd o → slice_get d.outputs o ≡ Some net → result ≡ pin_reads Zero sets rows (length sets) (OutPort o) net
    → IsTernaryCaptureOver d sets rows e c result
ternary_output d sets rows e c o net result sound end_is at is =
    let here : slice_index d.outputs o ≡ net = get_or_from_slice_get d.outputs o net 0 at in
    let computed : tern_capture_over d sets rows e c ≡ result = rw (end_is, here) (sym is) in
    ternary_over d sets rows e c result sound computed
