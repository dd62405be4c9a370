-- The late capture of a claim's end is one bit.
use Rattle.std.proofs.Common.{◌≡◌, ℕ, ◌+◌, Bool, true, false, if◌then◌else◌, List, length, Option, Some, None, refl, sym, ◌∙◌, arith}
use Rattle.std.specs.Prelude.{slice_get, slice_index, nat_lt}
use Rattle.net_model.specs.Form.{value}
use Rattle.net_model.specs.FormLaws.{value_agrees}
use Rattle.net_model.specs.Netlist.{IsSound, IsRegInRange}
use Rattle.net_model.specs.Fits.{IsEndIn}
use Rattle.net_model.specs.Cycles.{bit_at}
use Rattle.net_model.specs.Layers.{pin_reads, late_reg_pins, late_reg_capture, capture_over, IsLateCapture}
use Rattle.net_model.proofs.Settling.{All-at}
use Rattle.net_model.proofs.RegCaptures.{capture_agrees}
use Rattle.net_model.proofs.Layered.{pin_kept}
use Rattle.net_model.proofs.LayersOnce.{AgreeBelow, layers_once}
use Rattle.net_model.specs.declared.netlist.Design.{Design}
use Rattle.net_model.specs.declared.netlist.Reg.{Reg}
use Rattle.net_model.specs.declared.cycles.Cycle.{Cycle}
use Rattle.net_model.specs.declared.claims.Claim.{Claim}
use Rattle.net_model.specs.declared.claims.PinRef.{PinRef}
use Rattle.net_model.specs.declared.claims.PinRef.TheVariants.{RegIn, OutPort}
use Rattle.net_model.specs.declared.claims.End.{End}
use Rattle.net_model.specs.declared.claims.End.TheVariants.{Reg as RegEnd, Output as OutputEnd}
use borrow.Author.Tests.{ltb-true}

by_test : (b : Bool) (p q own : Bool) → (b ≡ true → p ≡ q) → (if b then p else own) ≡ (if b then q else own)
by_test true p q own same = same refl
by_test false p q own same = refl

of_reg : (d : Design) (sets : List (List PinRef)) (a b : List (List Bool)) (r : ℕ) (own : Bool) → IsSound d → AgreeBelow false d a b (length sets + 1)
    → (found : Option Reg) → slice_get d.regs r ≡ found → late_reg_capture sets a r found own ≡ late_reg_capture sets b r found own
of_reg d sets a b r own sound agree None e = refl
of_reg d sets a b r own sound agree (Some reg) e =
    let in_range = All-at (IsRegInRange d) d.regs r reg e sound.in_range.regs in
    capture_agrees reg (length reg.ins + 1) (late_reg_pins false sets a r reg own) (late_reg_pins false sets b r reg own) in_range.next in_range.clear
    in_range.preset
    (λ i lt.
    by_test (nat_lt i (length reg.ins)) (pin_reads false sets a (length sets) (RegIn r i) (slice_index reg.ins i))
    (pin_reads false sets b (length sets) (RegIn r i) (slice_index reg.ins i)) own
    (λ is. pin_kept false sets a b (length sets) (RegIn r i) (slice_index reg.ins i)
    (λ m le. agree m (omega arith) (slice_index reg.ins i) (in_range.ins i 0 (ltb-true i (length reg.ins) is)))))

pub capture_same : (d : Design) (sets : List (List PinRef)) (a b : List (List Bool)) (e : End) (c : Cycle) → IsSound d → IsEndIn d e
    → AgreeBelow false d a b (length sets + 1) → capture_over d sets a e c ≡ capture_over d sets b e c
capture_same d sets a b (RegEnd r) c sound is agree = of_reg d sets a b r (bit_at c.bits r) sound agree (slice_get d.regs r) refl
capture_same d sets a b (OutputEnd o) c sound is agree =
    pin_kept false sets a b (length sets) (OutPort o) (slice_index d.outputs o)
    (λ m le. agree m (omega arith) (slice_index d.outputs o) (sound.in_range.outputs o 0 is))

pub late_capture_once : (d : Design) (claim : Claim) (c : Cycle) (stale x y : Bool) → IsSound d → IsEndIn d claim.end
    → IsLateCapture d claim c stale x → IsLateCapture d claim c stale y → x ≡ y
late_capture_once d claim c stale x y sound is s t =
    let agree = layers_once value value_agrees false d claim.start claim.through _ c.nets s.rows t.rows (length claim.through) sound s.layers t.layers
    (length claim.through + 1) (omega arith) in
    sym s.capture ∙ (capture_same d claim.through s.rows t.rows claim.end c sound is agree ∙ t.capture)
