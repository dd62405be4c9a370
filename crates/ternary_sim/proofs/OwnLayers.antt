-- A cycle is its own layers, where the start shows its own bit.
use Rattle.std.proofs.Common.{◌≡◌, ℕ, zero, suc, ◌+◌, ◌≤◌, Bool, true, false, if◌then◌else◌, List, [], length, get_or, replicate, Option, Some, None}
use Rattle.std.proofs.Common.{refl, ap, sym, ◌∙◌, arith}
use Rattle.std.specs.Prelude.{All, slice_get, slice_index, nat_lt}
use Rattle.std.proofs.lemmas.List.{length-replicate, get_or-replicate}
use Rattle.std.proofs.lemmas.List.Elements.{All-nil, All-cons}
use Rattle.net_model.specs.Form.{value}
use Rattle.net_model.specs.FormLaws.{value_agrees}
use Rattle.net_model.specs.Netlist.{IsSound, IsGateInRange, IsRegInRange}
use Rattle.net_model.specs.Fits.{IsStartIn}
use Rattle.net_model.specs.Cycles.{bit_at, shown, gate_pins, reg_pins, reg_capture_in, capture, IsSettled}
use Rattle.net_model.specs.Pins.{is_in, start_outs, outs_of_reg}
use Rattle.net_model.specs.Layers.{row_at, net_at, pin_reads, layer_pins, late_reg_pins, late_reg_capture, capture_over, AreLayers}
use Rattle.net_model.specs.Judge.{start_bit}
use Rattle.net_model.proofs.Settling.{All-at}
use Rattle.net_model.proofs.RegCaptures.{capture_agrees}
use Rattle.net_model.specs.declared.netlist.Design.{Design}
use Rattle.net_model.specs.declared.netlist.Reg.{Reg}
use Rattle.net_model.specs.declared.netlist.RegOut.{RegOut}
use Rattle.net_model.specs.declared.cycles.Cycle.{Cycle}
use Rattle.net_model.specs.declared.claims.PinRef.{PinRef}
use Rattle.net_model.specs.declared.claims.PinRef.TheVariants.{GateIn, RegIn, OutPort}
use Rattle.net_model.specs.declared.claims.Start.{Start}
use Rattle.net_model.specs.declared.claims.Start.TheVariants.{Reg as RegStart, Input as InputStart}
use Rattle.net_model.specs.declared.claims.End.{End}
use Rattle.net_model.specs.declared.claims.End.TheVariants.{Reg as RegEnd, Output as OutputEnd}

-- the row of the cycle in each layer up to a last one
abbrev pub own_rows : List Bool → ℕ → List (List Bool)
own_rows nets last = replicate (last + 1) nets

own_row : (nets : List Bool) (last l : ℕ) → l ≤ last → row_at (own_rows nets last) l ≡ nets
own_row nets last l le = get_or-replicate (last + 1) l nets [] (omega arith)

own_net : (nets : List Bool) (last l n : ℕ) → l ≤ last → net_at false (own_rows nets last) l n ≡ bit_at nets n
own_net nets last l n le = ap (λ (row : List Bool). bit_at row n) (own_row nets last l le)

if_same : (b x y z : Bool) → x ≡ z → y ≡ z → (if b then x else y) ≡ z
if_same true x y z p q = p
if_same false x y z p q = q

own_pin : (sets : List (List PinRef)) (nets : List Bool) (last l : ℕ) (pin : PinRef) (n : ℕ) → l ≤ last
    → pin_reads false sets (own_rows nets last) l pin n ≡ bit_at nets n
own_pin sets nets last zero pin n le = own_net nets last 0 n (omega arith)
own_pin sets nets last (suc l) pin n le =
    if_same (is_in pin (get_or sets l [])) (pin_reads false sets (own_rows nets last) l pin n) (net_at false (own_rows nets last) (suc l) n) (bit_at nets n)
    (own_pin sets nets last l pin n (omega arith)) (own_net nets last (suc l) n le)

outs_show : (d : Design) (c : Cycle) (start : Start) → IsSettled d c → IsStartIn d start
    → All (λ (o : RegOut). bit_at c.nets o.net ≡ shown o (start_bit start c)) (start_outs d start)
outs_show d c (RegStart r) settled is = of_reg (slice_get d.regs r) refl
  where
    of_reg : (found : Option Reg) → slice_get d.regs r ≡ found → All (λ (o : RegOut). bit_at c.nets o.net ≡ shown o (bit_at c.bits r)) (outs_of_reg found)
    of_reg None e = All-nil (λ (o : RegOut). bit_at c.nets o.net ≡ shown o (bit_at c.bits r))
    of_reg (Some reg) e = settled.regs r reg e
outs_show d c (InputStart i) settled is =
    All-cons (λ (o : RegOut). bit_at c.nets o.net ≡ shown o (bit_at c.ins i)) (record { net = slice_index d.inputs i; inverted = false }) []
    (settled.inputs i is) (All-nil (λ (o : RegOut). bit_at c.nets o.net ≡ shown o (bit_at c.ins i)))

pub own_layers : (d : Design) (start : Start) (sets : List (List PinRef)) (c : Cycle) → IsSound d → IsSettled d c → IsStartIn d start
    → AreLayers value false d start sets (λ o. shown o (start_bit start c)) c.nets (own_rows c.nets (length sets))
own_layers d start sets c sound settled is =
    let last = length sets in
    let rows = own_rows c.nets last in
    record {
      count = omega (arith, length-replicate (last + 1) c.nets);
      lens = λ l le. ap length (own_row c.nets last l le) ∙ settled.shape.nets;
      late_nets = λ k o lt. own_net c.nets last 0 (get_or (start_outs d start) k o).net (omega arith) ∙ outs_show d c start settled is k o lt;
      others = λ n has out. own_net c.nets last 0 n (omega arith);
      held = λ l lt n low is_held. own_net c.nets last (l + 1) n (omega arith) ∙ sym (own_net c.nets last l n (omega arith));
      sources = λ l lt n has free. own_net c.nets last (l + 1) n (omega arith);
      gates = λ l le k g at free.
          own_net c.nets last l g.out le
          ∙ (settled.gates k g at
          ∙ value_agrees g.func (length g.ins) (gate_pins g.ins c.nets) (layer_pins false sets rows l k g.ins)
          (All-at (IsGateInRange d) d.gates k g at sound.in_range.gates).func
          (λ i within. sym (own_pin sets c.nets last l (GateIn k i) (slice_index g.ins i) le)));
    }

by_test : (b x y own : Bool) → x ≡ y → (if b then x else own) ≡ (if b then y else own)
by_test true x y own same = same
by_test false x y own same = refl

own_reg : (d : Design) (sets : List (List PinRef)) (c : Cycle) (r : ℕ) → IsSound d → (found : Option Reg) → slice_get d.regs r ≡ found
    → late_reg_capture sets (own_rows c.nets (length sets)) r found (bit_at c.bits r) ≡ reg_capture_in c r found
own_reg d sets c r sound None e = refl
own_reg d sets c r sound (Some reg) e =
    let in_range = All-at (IsRegInRange d) d.regs r reg e sound.in_range.regs in
    let own = bit_at c.bits r in
    capture_agrees reg (length reg.ins + 1) (late_reg_pins false sets (own_rows c.nets (length sets)) r reg own) (reg_pins reg.ins c.nets own)
    in_range.next in_range.clear in_range.preset
    (λ i lt. by_test (nat_lt i (length reg.ins)) (pin_reads false sets (own_rows c.nets (length sets)) (length sets) (RegIn r i)
    (slice_index reg.ins i)) (gate_pins reg.ins c.nets i) own (own_pin sets c.nets (length sets) (length sets) (RegIn r i) (slice_index reg.ins i)
    (omega arith)))

-- over its own layers an end captures what it captures in the cycle
pub own_capture : (d : Design) (sets : List (List PinRef)) (e : End) (c : Cycle) → IsSound d → capture_over d sets (own_rows c.nets (length sets)) e c
    ≡ capture d e c
own_capture d sets (RegEnd r) c sound = own_reg d sets c r sound (slice_get d.regs r) refl
own_capture d sets (OutputEnd o) c sound = own_pin sets c.nets (length sets) (length sets) (OutPort o) (slice_index d.outputs o) (omega arith)
