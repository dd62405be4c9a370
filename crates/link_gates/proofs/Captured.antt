-- What the registers of the rewritten design capture is what the flops of the circuit do.
use Rattle.std.proofs.Common.{◌≡◌, ℕ, ◌+◌, ◌<◌, nat_lt, Bool, true, false, List, [], ◌∷◌, map, length, drop, refl, ap, subst, sym, ◌∙◌, arith}
use Rattle.std.specs.Prelude.{Option, Some, slice_get, slice_index, flat_map, if◌then◌else◌}
use Rattle.std.proofs.lemmas.Bool.Decides.{nat_tests}
use Rattle.std.proofs.lemmas.List.{get_or-map, length-map}
use Rattle.net_model.specs.Form.{PinForm, IsOver}
use Rattle.net_model.specs.Mentions.{IsRegOver}
use Rattle.net_model.specs.Netlist.{IsOptionOver, IsRegInRange}
use Rattle.net_model.specs.Cycles.{bit_at, reg_pins, reg_capture, reg_capture_in, IsSettled}
use Rattle.net_model.specs.declared.netlist.Design.{Design}
use Rattle.net_model.specs.declared.netlist.Gate.{Gate}
use Rattle.net_model.specs.declared.netlist.Reg.{Reg}
use Rattle.net_model.specs.declared.cycles.Cycle.{Cycle}
use Rattle.net_model.proofs.RegCaptures.{capture_agrees}
use Rattle.icg_rewrite.specs.Gated.{AreGated}
use Rattle.icg_rewrite.specs.Rewritten.{rewritten}
use Rattle.icg_rewrite.specs.Runs.{passes, gated_capture}
use Rattle.icg_rewrite.specs.declared.clock_gates.Gated.{Gated}
use Rattle.icg_rewrite.proofs.Settled.{same_capture}
use Rattle.link_defs.specs.declared.circuits.Circuit.{Circuit}
use Rattle.link_defs.specs.declared.circuits.Part.{Part}
use Rattle.link_defs.specs.declared.circuits.Part.TheVariants as part
use Rattle.link_defs.specs.Circuits.{part_regs, regs_of}
use Rattle.link_defs.specs.Designs.{moved_reg, number_by, drivers_by, shows, captured}
use Rattle.link_defs.specs.Above.{Under}
use Rattle.link_defs.specs.GateOrders.{ClockPart, place_in}
use Rattle.link_defs.specs.GatedDesigns.{Flop, part_flop, flops_of, kept, IsGatedOf}
use Rattle.link_gates.proofs.GatePlaces.{map_at}
use Rattle.link_gates.proofs.Fronts.{front, front_whole, front_bits, front_length, reg_in, reg_ins_below}

-- a pin of a register with other numbers for its nets reads what the net has
pin_bit : (number : ℕ → ℕ) (nets : List Bool) (v : ℕ → Bool) (ins : List ℕ) (own : Bool) (i : ℕ) (b : Bool) → nat_lt i (length ins) ≡ b
    → ((k : ℕ) → k < length ins → bit_at nets (number (slice_index ins k)) ≡ v (slice_index ins k))
    → (if b then bit_at nets (slice_index (map number ins) i) else own) ≡ (if b then v (slice_index ins i) else own)
pin_bit number nets v ins own i true is have =
    let lt : i < length ins = grind (arith, nat_tests) in
    ap (λ (n : ℕ). bit_at nets n) (get_or-map number ins i 0 0 lt) ∙ have i lt
pin_bit number nets v ins own i false is have = refl

-- so does each place of its functions, of which the one after the pins reads its own bit
pins_read : (number : ℕ → ℕ) (nets : List Bool) (v : ℕ → Bool) (ins : List ℕ) (own : Bool) (i : ℕ)
    → ((k : ℕ) → k < length ins → bit_at nets (number (slice_index ins k)) ≡ v (slice_index ins k))
    → reg_pins (map number ins) nets own i ≡ (if nat_lt i (length ins) then v (slice_index ins i) else own)
pins_read number nets v ins own i have = rw (length-map ins number) (pin_bit number nets v ins own i (nat_lt i (length ins)) refl have)

-- so a register captures there what the flop does
capture_moved : (number : ℕ → ℕ) (nets : List Bool) (v : ℕ → Bool) (reg : Reg) (own : Bool) → IsRegOver (length reg.ins + 1) reg
    → ((k : ℕ) → k < length reg.ins → bit_at nets (number (slice_index reg.ins k)) ≡ v (slice_index reg.ins k))
    → reg_capture reg (reg_pins (map number reg.ins) nets own) ≡ captured reg own v
capture_moved number nets v reg own over have =
    capture_agrees reg (length reg.ins + 1) (reg_pins (map number reg.ins) nets own)
    (λ place. if nat_lt place (length reg.ins) then v (slice_index reg.ins place) else own) over.next over.clear over.preset
    (λ i lt. pins_read number nets v reg.ins own i have)

-- and one whose clock does not come through captures what the flop does with its own bit for its next state
kept_moved : (number : ℕ → ℕ) (nets : List Bool) (v : ℕ → Bool) (reg : Reg) (own : Bool) → IsRegOver (length reg.ins + 1) reg
    → ((k : ℕ) → k < length reg.ins → bit_at nets (number (slice_index reg.ins k)) ≡ v (slice_index reg.ins k))
    → gated_capture false (moved_reg number reg) (reg_pins (map number reg.ins) nets own) ≡ captured (kept reg) own v
kept_moved number nets v reg own over have =
    ap (λ (n : ℕ). reg_capture (record reg { next = PinForm n }) (reg_pins (map number reg.ins) nets own)) (length-map reg.ins number)
    ∙ capture_moved number nets v (kept reg) own (record { next = omega arith; clear = over.clear; preset = over.preset }) have

-- the functions of a register of a design read its own pins
over_in : (d : Design) (number : ℕ → ℕ) (reg : Reg) → IsRegInRange d (moved_reg number reg) → IsRegOver (length reg.ins + 1) reg
over_in d number reg own =
    let len = length-map reg.ins number in
    record {
      next = subst (λ (n : ℕ). IsOver (n + 1) reg.next) len own.next;
      clear = subst (λ (n : ℕ). IsOptionOver (n + 1) reg.clear) len own.clear;
      preset = subst (λ (n : ℕ). IsOptionOver (n + 1) reg.preset) len own.preset;
    }

-- the registers of the flops are the circuit's
pub flop_regs_are : (parts : List Part) → map (λ (x : Flop). x.reg) (flat_map part_flop parts) ≡ flat_map part_regs parts
flop_regs_are [] = refl
flop_regs_are (part.Comb buffer ins gates ∷ parts) = flop_regs_are parts
flop_regs_are (part.Flop clock reg ∷ parts) = ap (λ (rs : List Reg). reg ∷ rs) (flop_regs_are parts)
flop_regs_are (part.Gate clock enables out ∷ parts) = flop_regs_are parts

-- the register of a flop has its number among the registers of the circuit
flop_reg_at : (c : Circuit) (r : ℕ) (x : Flop) → slice_get (flops_of c) r ≡ Some x → slice_get (regs_of c) r ≡ Some x.reg
flop_reg_at c r x at =
    ap (λ (rs : List Reg). slice_get rs r) (sym (flop_regs_are c.parts)) ∙ map_at (λ (y : Flop). y.reg) (flops_of c) r x at

-- what a flop captures where the clock comes through to it, or doesn't
abbrev pub flop_captured : Bool → Reg → Bool → (ℕ → Bool) → Bool
flop_captured true reg own v = captured reg own v
flop_captured false reg own v = captured (kept reg) own v

-- so it captures what the flop does in either case
by_passes : (number : ℕ → ℕ) (nets : List Bool) (v : ℕ → Bool) (reg : Reg) (own : Bool) (b : Bool) → IsRegOver (length reg.ins + 1) reg
    → ((k : ℕ) → k < length reg.ins → bit_at nets (number (slice_index reg.ins k)) ≡ v (slice_index reg.ins k))
    → gated_capture b (moved_reg number reg) (reg_pins (map number reg.ins) nets own) ≡ flop_captured b reg own v
by_passes number nets v reg own true over have = capture_moved number nets v reg own over have
by_passes number nets v reg own false over have = kept_moved number nets v reg own over have

-- a register of the rewritten design captures what its flop does, by the bit of the clock gate above it
pub gated_captures : (c : Circuit) (tree : List Bool) (order : List Gate) (gates : List ClockPart) (g : Gated) → AreGated g
    → IsGatedOf c tree order gates g → (y : Cycle) (r : ℕ) (x : Flop) (up : Option ℕ) → IsSettled (rewritten g) y → slice_get (flops_of c) r ≡ Some x
    → Under c x.clock up → reg_capture_in y r (slice_get (rewritten g).regs r) ≡
    flop_captured (passes (drop g.design.nets y.nets) (place_in gates up)) x.reg (bit_at y.bits r) (shows (drivers_by c order) y)
gated_captures c tree order gates g are is y r x up settled at on =
    let number : ℕ → ℕ = number_by (drivers_by c order) in
    let (there, range) = reg_in c tree order g.design is.design are.sound.in_range r x.reg (flop_reg_at c r x at) in
    let below = reg_ins_below g.design number x.reg range in
    ap (λ (z : Cycle). reg_capture_in z r (slice_get (rewritten g).regs r)) (sym (front_whole g.design.nets y))
    ∙ (same_capture g (front g.design.nets y) (drop g.design.nets y.nets) r (moved_reg number x.reg) (place_in gates up) are (front_length g y settled) there
    (is.behind r x up at on)
    ∙ by_passes number (front g.design.nets y).nets (shows (drivers_by c order) y) x.reg (bit_at y.bits r)
    (passes (drop g.design.nets y.nets) (place_in gates up)) (over_in g.design number x.reg range)
    (λ k lt. front_bits g.design.nets number y (slice_index x.reg.ins k) (below k 0 lt)))
