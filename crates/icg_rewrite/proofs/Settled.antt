-- The settled cycles of a design with clock gates, with the bits of the gates, are the settled cycles of the rewritten design.
use Rattle.std.proofs.Common.{◌≡◌, ℕ, ◌+◌, Bool, ◌&&◌, List, ◌++◌, length, All, get_or, ap, sym, ◌∙◌, subst, arith, inl, inr}
use Rattle.std.specs.Prelude.{Option, Some, slice_get, slice_index}
use Rattle.std.proofs.lemmas.List.{length-append}
use Rattle.std.proofs.lemmas.Option.{slice_get_within, slice_get-get_or}
use Rattle.net_model.specs.Form.{value}
use Rattle.net_model.specs.Netlist.{IsGateInRange, IsRegInRange}
use Rattle.net_model.specs.Cycles.{bit_at, gate_pins, reg_pins, reg_capture_in, capture, shown, IsSettled}
use Rattle.net_model.proofs.Settling.{All-at}
use Rattle.net_model.proofs.Sources.{reg_out_in_range}
use Rattle.net_model.specs.declared.netlist.Gate.{Gate}
use Rattle.net_model.specs.declared.netlist.Reg.{Reg}
use Rattle.net_model.specs.declared.netlist.RegOut.{RegOut}
use Rattle.net_model.specs.declared.cycles.Cycle.{Cycle}
use Rattle.net_model.specs.declared.claims.End.TheVariants.{Reg as RegEnd}
use Rattle.icg_rewrite.specs.declared.clock_gates.ClockGate.{ClockGate}
use Rattle.icg_rewrite.specs.declared.clock_gates.Gated.{Gated}
use Rattle.icg_rewrite.specs.Gated.{AreGated}
use Rattle.icg_rewrite.specs.Rewritten.{gated_reg, enable_gate, enable_gates, rewritten}
use Rattle.icg_rewrite.specs.Runs.{passes, ArePassing, gated_capture}
use Rattle.icg_rewrite.proofs.Lists.{at_append, left_at, right_at, item_at, reg_from, reg_at, length-gated_regs, same_outs, enable_from, enable_at}
use Rattle.icg_rewrite.proofs.Capturing.{old_net, new_net, old_value, enable_value, captured}

-- a cycle of the design, and after its nets the bits of the clock gates
abbrev pub extended : Cycle → List Bool → Cycle
extended c row = record { bits = c.bits; ins = c.ins; nets = c.nets ++ row }

-- the output nets of a register show the bit
abbrev Shows : List Bool → Bool → List RegOut → Type 0
Shows nets bit outs = All (λ (o : RegOut). bit_at nets o.net ≡ shown o bit) outs

-- a gate of the design gives the same with and without those bits
gate_same : (g : Gated) (nets row : List Bool) (k : ℕ) (h : Gate) → AreGated g → length nets ≡ g.design.nets → slice_get g.design.gates k ≡ Some h
    → (bit_at (nets ++ row) h.out ≡ bit_at nets h.out) × (value h.func (gate_pins h.ins (nets ++ row)) ≡ value h.func (gate_pins h.ins nets))
gate_same g nets row k h are len at =
    let own = All-at (IsGateInRange g.design) g.design.gates k h at are.sound.in_range.gates in
    (old_net g.design.nets nets row h.out len own.out, old_value g.design.nets nets row h.func h.ins len own.ins own.func)

-- the gate of a clock gate
enable_same : (g : Gated) (nets row : List Bool) (k : ℕ) (x : ClockGate) → AreGated g → length nets ≡ g.design.nets → slice_get g.gates k ≡ Some x
    → (bit_at (nets ++ row) (g.design.nets + k) ≡ bit_at row k)
    × (value (enable_gate g.design.nets k x).func (gate_pins (enable_gate g.design.nets k x).ins (nets ++ row))
    ≡ (value x.func (gate_pins x.ins nets) && passes row x.parent))
enable_same g nets row k x are len at =
    let own = are.gates k x at in
    (new_net g.design.nets nets row k len, enable_value g.design.nets nets row x.func x.ins x.parent len own.ins own.func)

-- a cycle of the design, with the bits of its clock gates, is one of the rewritten design
pub settled_with : (g : Gated) (c : Cycle) (row : List Bool) → AreGated g → IsSettled g.design c → ArePassing g.gates c.nets row
    → IsSettled (rewritten g) (extended c row)
unfolding rewritten
settled_with g c row are settled passing =
    let len = settled.shape.nets in
    record {
      shape = record {
        bits = settled.shape.bits ∙ sym (length-gated_regs g.design.nets g.design.regs g.of are.each);
        ins = settled.shape.ins;
        nets = omega (arith, length-append c.nets row, settled.shape.nets, passing.len);
      };
      inputs = λ i lt. old_net g.design.nets c.nets row (slice_index g.design.inputs i) len (are.sound.in_range.inputs i 0 lt) ∙ settled.inputs i lt;
      regs = λ r q at.
          let from = reg_from g.design.nets g.design.regs g.of r q at in
          let same : from.0.outs ≡ q.outs = sym (same_outs g.design.nets from.0 from.1) ∙ ap (λ (x : Reg). x.outs) from.4 in
          subst (Shows (c.nets ++ row) (bit_at c.bits r)) same
          (λ k o within.
          old_net g.design.nets c.nets row (get_or from.0.outs k o).net len
          (reg_out_in_range g.design r from.0 k (get_or from.0.outs k o) are.sound from.2 (slice_get-get_or from.0.outs k o within))
          ∙ settled.regs r from.0 from.2 k o within);
      gates = λ k h at. elim (at_append g.design.gates (enable_gates g.design.nets 0 g.gates) k h at) [
        | inl old ↦
            let same = gate_same g c.nets row k h are len old in same.0 ∙ (settled.gates k h old ∙ sym same.1)
        | inr new ↦
            let from = enable_from g.design.nets g.gates new.0 h new.2 in
            let same = enable_same g c.nets row new.0 from.0 are len from.1 in
            subst (λ (x : Gate). bit_at (c.nets ++ row) x.out ≡ value x.func (gate_pins x.ins (c.nets ++ row))) from.2
            (same.0 ∙ (passing.each new.0 from.0 from.1 ∙ sym same.1))
      ];
    }

-- and a cycle of the rewritten design is one of the design, with the bits of its clock gates
pub settled_without : (g : Gated) (c : Cycle) (row : List Bool) → AreGated g → length c.nets ≡ g.design.nets → length row ≡ length g.gates
    → IsSettled (rewritten g) (extended c row) → IsSettled g.design c × ArePassing g.gates c.nets row
unfolding rewritten
settled_without g c row are len count settled = (
  record {
    shape = record {
      bits = settled.shape.bits ∙ length-gated_regs g.design.nets g.design.regs g.of are.each;
      ins = settled.shape.ins;
      nets = len;
    };
    inputs = λ i lt. sym (old_net g.design.nets c.nets row (slice_index g.design.inputs i) len (are.sound.in_range.inputs i 0 lt)) ∙ settled.inputs i lt;
    regs = λ r reg at k o within.
        let gate = item_at g.of r (let lt = slice_get_within g.design.regs r reg at in omega (arith, are.each)) in
        let own = subst (Shows (c.nets ++ row) (bit_at c.bits r)) (same_outs g.design.nets reg gate.0)
        (settled.regs r (gated_reg g.design.nets reg gate.0) (reg_at g.design.nets g.design.regs g.of r reg gate.0 at gate.1)) in
        sym (old_net g.design.nets c.nets row (get_or reg.outs k o).net len
        (reg_out_in_range g.design r reg k (get_or reg.outs k o) are.sound at (slice_get-get_or reg.outs k o within)))
        ∙ own k o within;
    gates = λ k h at.
        let same = gate_same g c.nets row k h are len at in
        sym same.0 ∙ (settled.gates k h (left_at g.design.gates (enable_gates g.design.nets 0 g.gates) k h at) ∙ same.1);
  },
  record {
    len = count;
    each = λ k x at.
        let same = enable_same g c.nets row k x are len at in
        let there = right_at g.design.gates (enable_gates g.design.nets 0 g.gates) k ∙ enable_at g.design.nets g.gates k x at in
        sym same.0 ∙ (settled.gates (length g.design.gates + k) (enable_gate g.design.nets k x) there ∙ same.1);
  },
)

-- registers capture there what they capture behind their clock gates
pub same_capture : (g : Gated) (c : Cycle) (row : List Bool) (r : ℕ) (reg : Reg) (gate : Option ℕ) → AreGated g → length c.nets ≡ g.design.nets
    → slice_get g.design.regs r ≡ Some reg → slice_get g.of r ≡ Some gate
    → capture (rewritten g) (RegEnd r) (extended c row) ≡ gated_capture (passes row gate) reg (reg_pins reg.ins c.nets (bit_at c.bits r))
unfolding rewritten
same_capture g c row r reg gate are len at there =
    let own = All-at (IsRegInRange g.design) g.design.regs r reg at are.sound.in_range.regs in
    ap (reg_capture_in (extended c row) r) (reg_at g.design.nets g.design.regs g.of r reg gate at there)
    ∙ captured g.design.nets c.nets row reg gate (bit_at c.bits r) len own.ins (record { next = own.next; clear = own.clear; preset = own.preset })
