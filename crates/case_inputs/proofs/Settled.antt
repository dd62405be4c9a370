-- Settled cycles that keep the assumptions are, with the assumed inputs at their values, settled cycles of the assumed design.
use Rattle.std.proofs.Common.{◌≡◌, ℕ, ◌+◌, ◌-◌, ◌<◌, ◌≤◌, Bool, true, false, List, ◌++◌, length, All, get_or, refl, ap, sym, ◌∙◌, subst, arith, inl, inr}
use Rattle.std.specs.Prelude.{Some, option_map, slice_get, slice_index, nat_lt}
use Rattle.std.proofs.lemmas.Bool.{cases_lt}
use Rattle.std.proofs.lemmas.Bool.Decides.{nat_tests}
use Rattle.std.proofs.lemmas.List.{get_or_append_left, get_or-append-add, length-append, length-map}
use Rattle.std.proofs.lemmas.Option.{slice_get-get_or, slice_get-map, get_or_from_slice_get}
use Rattle.list_laws.proofs.Joining.{item_at}
use Rattle.net_model.specs.Form.{value}
use Rattle.net_model.specs.FormLaws.{value_agrees}
use Rattle.net_model.specs.Netlist.{IsSound, IsGateInRange, IsRegInRange, AllBelow}
use Rattle.net_model.specs.Cycles.{bit_at, gate_pins, reg_pins, reg_capture, reg_capture_in, capture, shown, IsSettled}
use Rattle.net_model.specs.Paths.{LeadsTo, To_gate, To_reg}
use Rattle.net_model.proofs.Settling.{All-at}
use Rattle.net_model.proofs.Sources.{reg_out_in_range}
use Rattle.net_model.proofs.RegCaptures.{capture_agrees}
use Rattle.net_model.specs.declared.netlist.Design.{Design}
use Rattle.net_model.specs.declared.netlist.Fixed.{Fixed}
use Rattle.net_model.specs.declared.netlist.Gate.{Gate}
use Rattle.net_model.specs.declared.netlist.Reg.{Reg}
use Rattle.net_model.specs.declared.netlist.RegOut.{RegOut}
use Rattle.net_model.specs.declared.cycles.Cycle.{Cycle}
use Rattle.net_model.specs.declared.claims.End.TheVariants.{Reg as RegEnd}
use Rattle.net_model.specs.declared.claims.PinRef.{PinRef}
use Rattle.net_model.specs.declared.claims.PinRef.TheVariants.{Net}
use Rattle.case_inputs.specs.declared.assumptions.Assumed.{Assumed}
use Rattle.case_inputs.specs.declared.loads.Owner.TheVariants as owner
use Rattle.case_inputs.specs.Ties.{read_net, pin_sets}
use Rattle.case_inputs.specs.Assumed.{owner_pin, read_nets, assumed_gate, assumed_reg, new_nets, assumed_design}
use Rattle.case_inputs.specs.Runs.{AreShadowsKept, values, with_assumed}
use Rattle.case_inputs.proofs.Parts.{length-by_number, number_at, first_at, first_from}
use Rattle.case_inputs.proofs.Tying.{length-pin_sets}
use Rattle.case_inputs.proofs.Sounding.{reads, length-read_nets}

-- a bit stays where more bits follow
pub old_bit : (n : ℕ) (bits row : List Bool) (i : ℕ) → length bits ≡ n → i < n → bit_at (bits ++ row) i ≡ bit_at bits i
old_bit n bits row i len lt = get_or_append_left bits row false i (omega (arith, len))

-- and the bits that follow come after them
pub new_bit : (n : ℕ) (bits row : List Bool) (j : ℕ) → length bits ≡ n → bit_at (bits ++ row) (n + j) ≡ bit_at row j
new_bit n bits row j len = ap (λ (m : ℕ). bit_at (bits ++ row) (m + j)) (sym len) ∙ get_or-append-add bits row j false

abbrev pub value_of : Assumed → Bool
value_of a = a.value

pub value_there : (assumed : List Assumed) (j : ℕ) (a : Assumed) → slice_get assumed j ≡ Some a → bit_at (values assumed) j ≡ a.value
value_there assumed j a at =
    get_or_from_slice_get (values assumed) j a.value false (slice_get-map value_of assumed j ∙ ap (option_map value_of) at)

-- a load pin reads there what it reads in the design
load_reads : (d : Design) (assumed : List Assumed) (nets : List Bool) (pin : PinRef) (net : ℕ) → length nets ≡ d.nets → net < d.nets
    → LeadsTo d (Net net) pin → AreShadowsKept d assumed nets
    → bit_at (nets ++ values assumed) (read_net d.nets (pin_sets assumed) pin net) ≡ bit_at nets net
load_reads d assumed nets pin net len lt leads kept = elim (reads d.nets (pin_sets assumed) pin net) [
  | inl own ↦ ap (bit_at (nets ++ values assumed)) own ∙ old_bit d.nets nets (values assumed) net len lt
  | inr new ↦
      let item = item_at assumed new.0 (omega (arith, new.1, length-pin_sets assumed)) in
      ap (bit_at (nets ++ values assumed)) new.3 ∙ (new_bit d.nets nets (values assumed) new.0 len
      ∙ (value_there assumed new.0 item.0 item.1 ∙ sym (kept net pin new.0 item.0 leads new.2 item.1)))
]

-- so do the pins of a gate or a register
pins_read : (d : Design) (assumed : List Assumed) (nets : List Bool) (pin : ℕ → PinRef) (ins : List ℕ) (i : ℕ) → length nets ≡ d.nets
    → AllBelow d.nets ins → ((j : ℕ) → j < length ins → LeadsTo d (Net (slice_index ins j)) (pin j)) → AreShadowsKept d assumed nets → i < length ins
    → gate_pins (read_nets d.nets (pin_sets assumed) pin ins) (nets ++ values assumed) i ≡ gate_pins ins nets i
pins_read d assumed nets pin ins i len below leads kept lt =
    let reading : ℕ → ℕ → ℕ = λ place net. read_net d.nets (pin_sets assumed) (pin place) net in
    let own = slice_get-get_or ins i 0 lt in
    ap (bit_at (nets ++ values assumed))
    (get_or_from_slice_get (read_nets d.nets (pin_sets assumed) pin ins) i (reading i (slice_index ins i)) 0 (first_at reading ins i (slice_index ins i) own))
    ∙ load_reads d assumed nets (pin i) (slice_index ins i) len (below i 0 lt) (leads i lt) kept

-- a gate gives the same
gate_same : (d : Design) (assumed : List Assumed) (nets : List Bool) (k : ℕ) (g : Gate) → IsSound d → length nets ≡ d.nets → AreShadowsKept d assumed nets
    → slice_get d.gates k ≡ Some g
    → (bit_at (nets ++ values assumed) g.out ≡ bit_at nets g.out)
    × (value g.func (gate_pins (read_nets d.nets (pin_sets assumed) (owner_pin (owner.Gate k)) g.ins) (nets ++ values assumed))
    ≡ value g.func (gate_pins g.ins nets))
gate_same d assumed nets k g sound len kept at =
    let own = All-at (IsGateInRange d) d.gates k g at sound.in_range.gates in (
      old_bit d.nets nets (values assumed) g.out len own.out,
      value_agrees g.func (length g.ins) (gate_pins (read_nets d.nets (pin_sets assumed) (owner_pin (owner.Gate k)) g.ins) (nets ++ values assumed))
          (gate_pins g.ins nets) own.func
          (λ i lt. pins_read d assumed nets (owner_pin (owner.Gate k)) g.ins i len own.ins (λ j within. To_gate k g j at within) kept lt),
    )

-- the net of an input
pub input_net : (d : Design) (assumed : List Assumed) (j : ℕ) → j < length assumed
    → slice_index (d.inputs ++ new_nets d.nets assumed) (length d.inputs + j) ≡ d.nets + j
input_net d assumed j lt =
    let item = item_at assumed j lt in
    get_or-append-add d.inputs (new_nets d.nets assumed) j 0
    ∙ get_or_from_slice_get (new_nets d.nets assumed) j (d.nets + j) 0 (number_at (λ (net : ℕ) (a : Assumed). net) d.nets assumed j item.0 item.1)

-- with new input bits at the new nets each input shows its bit
new_input : (d : Design) (assumed : List Assumed) (c : Cycle) (j : ℕ) → length c.ins ≡ length d.inputs → length c.nets ≡ d.nets → j < length assumed
    → bit_at (c.nets ++ values assumed) (slice_index (d.inputs ++ new_nets d.nets assumed) (length d.inputs + j))
    ≡ bit_at (c.ins ++ values assumed) (length d.inputs + j)
new_input d assumed c j ins nets lt =
    ap (bit_at (c.nets ++ values assumed)) (input_net d assumed j lt)
    ∙ (new_bit d.nets c.nets (values assumed) j nets ∙ sym (new_bit (length d.inputs) c.ins (values assumed) j ins))

-- what an input of the design shows there
old_input : (d : Design) (assumed : List Assumed) (c : Cycle) (i : ℕ) → IsSound d → length c.nets ≡ d.nets → i < length d.inputs
    → bit_at (c.nets ++ values assumed) (slice_index (d.inputs ++ new_nets d.nets assumed) i) ≡ bit_at c.nets (slice_index d.inputs i)
old_input d assumed c i sound nets lt =
    ap (bit_at (c.nets ++ values assumed)) (get_or_append_left d.inputs (new_nets d.nets assumed) 0 i lt)
    ∙ old_bit d.nets c.nets (values assumed) (slice_index d.inputs i) nets (sound.in_range.inputs i 0 lt)

-- how many inputs there are
pub input_count : (d : Design) (assumed : List Assumed) → length (d.inputs ++ new_nets d.nets assumed) ≡ length d.inputs + length assumed
input_count d assumed =
    omega (arith, length-append d.inputs (new_nets d.nets assumed), length-by_number (λ (net : ℕ) (a : Assumed). net) d.nets assumed)

-- the output nets of a register show the bit
abbrev Shows : List Bool → Bool → List RegOut → Type 0
Shows nets bit outs = All (λ (o : RegOut). bit_at nets o.net ≡ shown o bit) outs

pub settled_with : (d : Design) (more : List Fixed) (assumed : List Assumed) (c : Cycle) → IsSound d → IsSettled d c → AreShadowsKept d assumed c.nets
    → IsSettled (assumed_design d more assumed) (with_assumed assumed c)
unfolding assumed_design
settled_with d more assumed c sound settled kept =
    let len : length c.nets ≡ d.nets = settled.shape.nets in
    let ins : length c.ins ≡ length d.inputs = settled.shape.ins in
    let sets = pin_sets assumed in
    let count : length (values assumed) ≡ length assumed = length-map assumed value_of in
    record {
      shape = record {
        bits = settled.shape.bits ∙ sym (length-by_number (assumed_reg d.nets sets) 0 d.regs);
        ins = omega (arith, length-append c.ins (values assumed), ins, count, input_count d assumed);
        nets = omega (arith, length-append c.nets (values assumed), len, count);
      };
      inputs = λ i lt. elim (cases_lt i (length d.inputs)) [
        | inl low ↦
            old_input d assumed c i sound len low
            ∙ (settled.inputs i low ∙ sym (old_bit (length d.inputs) c.ins (values assumed) i ins low))
        | inr high ↦
            let j : ℕ = i - length d.inputs in
            let here : length d.inputs + j ≡ i = omega arith in
            subst (λ (m : ℕ). bit_at (c.nets ++ values assumed) (slice_index (d.inputs ++ new_nets d.nets assumed) m) ≡ bit_at (c.ins ++ values assumed) m) here
            (new_input d assumed c j ins len (omega (arith, lt, input_count d assumed)))
      ];
      regs = λ r q at.
          let from = first_from (assumed_reg d.nets sets) d.regs r q at in
          subst (λ (x : Reg). Shows (c.nets ++ values assumed) (bit_at c.bits r) x.outs) from.2
          (λ k o within.
          old_bit d.nets c.nets (values assumed) (get_or from.0.outs k o).net len
          (reg_out_in_range d r from.0 k (get_or from.0.outs k o) sound from.1 (slice_get-get_or from.0.outs k o within))
          ∙ settled.regs r from.0 from.1 k o within);
      gates = λ k h at.
          let from = first_from (assumed_gate d.nets sets) d.gates k h at in
          let same = gate_same d assumed c.nets k from.0 sound len kept from.1 in
          subst (λ (x : Gate). bit_at (c.nets ++ values assumed) x.out ≡ value x.func (gate_pins x.ins (c.nets ++ values assumed))) from.2
          (same.0 ∙ (settled.gates k from.0 from.1 ∙ sym same.1));
    }

-- and back
pub settled_without : (d : Design) (more : List Fixed) (assumed : List Assumed) (c : Cycle) → IsSound d → length c.ins ≡ length d.inputs
    → length c.nets ≡ d.nets → AreShadowsKept d assumed c.nets → IsSettled (assumed_design d more assumed) (with_assumed assumed c) → IsSettled d c
unfolding assumed_design
settled_without d more assumed c sound ins len kept settled =
    let sets = pin_sets assumed in
    record {
      shape = record { bits = settled.shape.bits ∙ length-by_number (assumed_reg d.nets sets) 0 d.regs; ins = ins; nets = len };
      inputs = λ i lt.
          sym (old_input d assumed c i sound len lt)
          ∙ (settled.inputs i (omega (arith, lt, input_count d assumed)) ∙ old_bit (length d.inputs) c.ins (values assumed) i ins lt);
      regs = λ r reg at k o within.
          sym (old_bit d.nets c.nets (values assumed) (get_or reg.outs k o).net len
          (reg_out_in_range d r reg k (get_or reg.outs k o) sound at (slice_get-get_or reg.outs k o within)))
          ∙ settled.regs r (assumed_reg d.nets sets r reg) (first_at (assumed_reg d.nets sets) d.regs r reg at) k o within;
      gates = λ k g at.
          let same = gate_same d assumed c.nets k g sound len kept at in
          sym same.0 ∙ (settled.gates k (assumed_gate d.nets sets k g) (first_at (assumed_gate d.nets sets) d.gates k g at) ∙ same.1);
    }

-- what a register's pin reads, and the place after its pins
pin_within : (ins : List ℕ) (nets : List Bool) (own : Bool) (i : ℕ) → i < length ins → reg_pins ins nets own i ≡ gate_pins ins nets i
pin_within ins nets own i lt = let hit : nat_lt i (length ins) ≡ true = grind (arith, nat_tests) in rw hit refl

pin_after : (ins : List ℕ) (nets : List Bool) (own : Bool) (i : ℕ) → length ins ≤ i → reg_pins ins nets own i ≡ own
pin_after ins nets own i le = let miss : nat_lt i (length ins) ≡ false = grind (arith, nat_tests) in rw miss refl

-- a register captures the same
captured : (d : Design) (assumed : List Assumed) (nets : List Bool) (own : Bool) (r : ℕ) (reg : Reg) → IsSound d → length nets ≡ d.nets
    → AreShadowsKept d assumed nets → slice_get d.regs r ≡ Some reg
    → reg_capture reg (reg_pins (read_nets d.nets (pin_sets assumed) (owner_pin (owner.Reg r)) reg.ins) (nets ++ values assumed) own)
    ≡ reg_capture reg (reg_pins reg.ins nets own)
captured d assumed nets own r reg sound len kept at =
    let fits = All-at (IsRegInRange d) d.regs r reg at sound.in_range.regs in
    let ins = read_nets d.nets (pin_sets assumed) (owner_pin (owner.Reg r)) reg.ins in
    let long : length ins ≡ length reg.ins = length-read_nets d.nets (pin_sets assumed) (owner_pin (owner.Reg r)) reg.ins in
    capture_agrees reg (length reg.ins + 1) (reg_pins ins (nets ++ values assumed) own) (reg_pins reg.ins nets own) fits.next fits.clear fits.preset
    (λ i lt. elim (cases_lt i (length reg.ins)) [
      | inl low ↦
          pin_within ins (nets ++ values assumed) own i (omega (arith, long))
          ∙ (pins_read d assumed nets (owner_pin (owner.Reg r)) reg.ins i len fits.ins (λ j within. To_reg r reg j at within) kept low
          ∙ sym (pin_within reg.ins nets own i low))
      | inr high ↦ pin_after ins (nets ++ values assumed) own i (omega (arith, long)) ∙ sym (pin_after reg.ins nets own i high)
    ])

pub same_capture : (d : Design) (more : List Fixed) (assumed : List Assumed) (c : Cycle) (r : ℕ) (reg : Reg) → IsSound d → length c.nets ≡ d.nets
    → AreShadowsKept d assumed c.nets → slice_get d.regs r ≡ Some reg
    → capture (assumed_design d more assumed) (RegEnd r) (with_assumed assumed c) ≡ capture d (RegEnd r) c
unfolding assumed_design
same_capture d more assumed c r reg sound len kept at =
    ap (reg_capture_in (with_assumed assumed c) r) (first_at (assumed_reg d.nets (pin_sets assumed)) d.regs r reg at)
    ∙ (captured d assumed c.nets (bit_at c.bits r) r reg sound len kept at ∙ ap (reg_capture_in c r) (sym at))
