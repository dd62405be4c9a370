-- Two registers, a gate between them, and a memory that is cut out and drives one pin of the gate: what is left, and its design.
use Rattle.std.proofs.Common.{◌≡◌, ℕ, zero, suc, ◌<◌, ◌≤◌, ◌++◌, ◌==◌, Bool, true, false, List, [], ◌∷◌, take, refl, subst, sym, arith, inl, inr}
use Rattle.std.specs.Prelude.{All, Contains, None, Some, codes, count_by, slice_get}
use Rattle.std.proofs.lemmas.List.Elements.{All-nil, All-cons}
use Rattle.sdcv_base.specs.Steps.{after_all}
use Rattle.graph_order.specs.Orders.{order_of, visited}
use Rattle.net_model.specs.Form.{PinForm, AndForm}
use Rattle.net_model.specs.Netlist.{IsSound, IsGateInRange, IsRegInRange, driver_count, held_inputs, source_nets, gate_nets}
use Rattle.net_model.specs.declared.netlist.Design.{Design}
use Rattle.net_model.specs.declared.netlist.Fixed.{Fixed}
use Rattle.net_model.specs.declared.netlist.Gate.{Gate}
use Rattle.net_model.specs.declared.netlist.Reg.{Reg}
use Rattle.net_model.proofs.Members.{In, In-from_Contains}
use Rattle.link_defs.specs.declared.circuits.Circuit.{Circuit}
use Rattle.link_defs.specs.declared.circuits.Part.{Part}
use Rattle.link_defs.specs.declared.circuits.Part.TheVariants as part
use Rattle.link_defs.specs.declared.cuts.CutCell.{CutCell}
use Rattle.link_defs.specs.declared.cuts.CutPin.{CutPin}
use Rattle.link_defs.specs.declared.cuts.Way.{Way}
use Rattle.link_defs.specs.declared.cuts.Way.TheVariants as way
use Rattle.link_defs.specs.Circuits.{IsTree, OnTree, Root, Buffered, Gated}
use Rattle.link_defs.specs.Cuts.{Tree, IsCut, IsEven, cut_circuit}
use Rattle.link_defs.specs.Designs.{IsDesignOf}

-- module top (input clk, d, output y); DFF a (.D(d), .CK(clk), .Q(qa)); AND2 g (.A(qa), .B(w), .Y(n)); DFF b (.D(n), .CK(clk), .Q(y));
-- RAM m (.A(qa), .CLK(clk), .Q(w)); endmodule
-- the nets are clk, d, w, qa, n, y
abbrev pub flop : ℕ → ℕ → Reg
flop from to = record { next = PinForm 0; clear = None; preset = None; both = false; ins = from ∷ []; outs = (record { net = to; inverted = false }) ∷ [] }

abbrev pub gate : ℕ → ℕ → ℕ → Gate
gate a b out = record { func = AndForm (PinForm 0) (PinForm 1); ins = a ∷ b ∷ []; out = out }

abbrev pub parts : List Part
parts = part.Flop 0 (flop 1 3) ∷ part.Comb false (3 ∷ 2 ∷ []) (gate 3 2 4 ∷ []) ∷ part.Flop 0 (flop 4 5) ∷ []

-- the netlist with these data inputs and outputs
abbrev pub netlist : List ℕ → List ℕ → Circuit
netlist inputs outputs = record { nets = 6; clocks = 0 ∷ []; inputs = inputs; outputs = outputs; parts = parts }

abbrev pin : List ℕ → Way → ℕ → CutPin
pin name w net = record { name = name; way = w; net = net }

abbrev ram : CutCell
ram = record {
  cell = codes "RAM";
  name = codes "m";
  clocked = true;
  pins = pin (codes "A") way.In 3 ∷ pin (codes "CLK") way.In 0 ∷ pin (codes "Q") way.Out 2 ∷ [];
  fault = None;
}

-- what is left: w is a data input, and qa an output
abbrev pub left : Circuit
left = netlist (1 ∷ 2 ∷ []) (5 ∷ 3 ∷ [])

-- no part is a buffer
pub no_buffer : (from : ℕ) (gates : List Gate) → In (part.Comb true (from ∷ []) gates) parts → ⊥
no_buffer from gates (inl same) = cc
no_buffer from gates (inr (inl same)) = cc
no_buffer from gates (inr (inr (inl same))) = cc
no_buffer from gates (inr (inr (inr none))) = none

-- or a clock gate
pub no_gate : (clock : ℕ) (enables : List ℕ) (out : ℕ) → In (part.Gate clock enables out) parts → ⊥
no_gate clock enables out (inl same) = cc
no_gate clock enables out (inr (inl same)) = cc
no_gate clock enables out (inr (inr (inl same))) = cc
no_gate clock enables out (inr (inr (inr none))) = none

-- so the clock's net alone is on the clock tree
clock_alone : (inputs outputs : List ℕ) (net : ℕ) (odd : Bool) → OnTree (netlist inputs outputs) net odd → net ≡ 0
clock_alone inputs outputs net odd (Root clock has) = elim (In-from_Contains (0 ∷ []) clock has) [ inl same ↦ sym same | inr none ↦ absurd none ]
clock_alone inputs outputs net odd (Buffered from gates g even stands there on) = absurd (no_buffer from gates (In-from_Contains parts _ stands))
clock_alone inputs outputs net odd (Gated clock enables out stands on) = absurd (no_gate clock enables out (In-from_Contains parts _ stands))

abbrev clock_row : List Bool
clock_row = true ∷ []

clock_on : (inputs outputs : List ℕ) → OnTree (netlist inputs outputs) 0 false
clock_on inputs outputs = Root 0 (0, omega arith, refl)

pub tree_is : (inputs outputs : List ℕ) → IsTree (netlist inputs outputs) clock_row
tree_is inputs outputs zero = ((λ is. (false, clock_on inputs outputs)), λ on. refl)
tree_is inputs outputs (suc net) = ((λ is. cc), λ on. absurd (omega (arith, clock_alone inputs outputs (suc net) on.0 on.1)))

even_is : (inputs outputs : List ℕ) → IsEven (netlist inputs outputs) clock_row
even_is inputs outputs zero = ((λ is. clock_on inputs outputs), λ on. refl)
even_is inputs outputs (suc net) = ((λ is. cc), λ on. absurd (omega (arith, clock_alone inputs outputs (suc net) false on)))

abbrev tree : Tree
tree = record { all = clock_row; even = clock_row }

left_over : cut_circuit (netlist (1 ∷ []) (5 ∷ [])) tree (ram ∷ []) ≡ left
unfolding cut_circuit
left_over = refl

-- the memory is cut out of the netlist
pub left_is : IsCut (netlist (1 ∷ []) (5 ∷ [])) (ram ∷ []) left
left_is = record {
  tree = tree;
  tree_is = λ x has. record { all = tree_is (1 ∷ []) (5 ∷ []); even = even_is (1 ∷ []) (5 ∷ []) };
  is = sym left_over;
}

-- d is fixed to 1
abbrev d_is_1 : Fixed
d_is_1 = record { input = 0; value = true }

-- the design: its nets are d, w, qa, y, n
abbrev pub design : Design
design = record {
  nets = 5;
  gates = gate 2 1 4 ∷ [];
  regs = flop 0 2 ∷ flop 4 3 ∷ [];
  inputs = 0 ∷ 1 ∷ [];
  outputs = 3 ∷ 2 ∷ [];
  fixed = d_is_1 ∷ [];
  resets = [];
  reset_len = 0;
}

pub design_is : IsDesignOf left clock_row (gate 3 2 4 ∷ []) design
unfolding order_of visited after_all
design_is = record {
  tree_is = tree_is (1 ∷ 2 ∷ []) (5 ∷ 3 ∷ []);
  order_is = record { places = 0 ∷ []; found = refl; kept = refl };
  nets = refl;
  gates = refl;
  regs = refl;
  inputs = refl;
  outputs = refl;
}

-- two numbers below a limit
both_below : (limit a b : ℕ) → a < limit → b < limit → All (λ (n : ℕ). n < limit) (a ∷ b ∷ [])
both_below limit a b low high =
    All-cons (λ (n : ℕ). n < limit) a (b ∷ []) low (All-cons (λ (n : ℕ). n < limit) b [] high (All-nil (λ (n : ℕ). n < limit)))

one_below : (limit a : ℕ) → a < limit → All (λ (n : ℕ). n < limit) (a ∷ [])
one_below limit a low = All-cons (λ (n : ℕ). n < limit) a [] low (All-nil (λ (n : ℕ). n < limit))

gate_in_range : IsGateInRange design (gate 2 1 4)
gate_in_range = record {
  func = (omega arith, omega arith);
  ins = both_below 5 2 1 (omega arith) (omega arith);
  out = omega arith;
  few = omega arith;
}

flop_in_range : (from to : ℕ) → from < 5 → to < 5 → IsRegInRange design (flop from to)
flop_in_range from to low high = record {
  next = omega arith;
  clear = tt;
  preset = tt;
  ins = one_below 5 from low;
  outs = one_below 5 to high;
  few = omega arith;
}

regs_in_range : All (IsRegInRange design) design.regs
regs_in_range =
    All-cons (IsRegInRange design) (flop 0 2) (flop 4 3 ∷ []) (flop_in_range 0 2 (omega arith) (omega arith))
    (All-cons (IsRegInRange design) (flop 4 3) [] (flop_in_range 4 3 (omega arith) (omega arith)) (All-nil (IsRegInRange design)))

driven_once : (net : ℕ) → net < 5 → driver_count design net ≡ 1
driven_once zero lt = refl
driven_once (suc zero) lt = refl
driven_once (suc (suc zero)) lt = refl
driven_once (suc (suc (suc zero))) lt = refl
driven_once (suc (suc (suc (suc zero)))) lt = refl
driven_once (suc (suc (suc (suc (suc net))))) lt = absurd (omega (arith, lt))

held_once : (i : ℕ) → i < 2 → count_by (λ m. m == i) (held_inputs design) ≤ 1
held_once zero lt = omega arith
held_once (suc zero) lt = omega arith
held_once (suc (suc i)) lt = absurd (omega (arith, lt))

-- the gate reads an input and an output of a register
reads_driven : All (Contains (source_nets design ++ gate_nets (take 0 design.gates))) (gate 2 1 4).ins
reads_driven =
    let P : ℕ → Type 0 = Contains (0 ∷ 1 ∷ 2 ∷ 3 ∷ []) in
    All-cons P 2 (1 ∷ []) (2, omega arith, refl) (All-cons P 1 [] (1, omega arith, refl) (All-nil P))

in_order : (k : ℕ) (g : Gate) → slice_get design.gates k ≡ Some g → All (Contains (source_nets design ++ gate_nets (take k design.gates))) g.ins
in_order zero g at =
    let same : gate 2 1 4 ≡ g = cc in
    subst (λ (x : Gate). All (Contains (source_nets design ++ gate_nets (take 0 design.gates))) x.ins) same reads_driven
in_order (suc k) g at = absurd cc

-- it is sound
pub design_sound : IsSound design
design_sound = record {
  in_range = record {
    gates = All-cons (IsGateInRange design) (gate 2 1 4) [] gate_in_range (All-nil (IsGateInRange design));
    regs = regs_in_range;
    inputs = both_below 5 0 1 (omega arith) (omega arith);
    outputs = both_below 5 3 2 (omega arith) (omega arith);
    held = one_below 2 0 (omega arith);
  };
  one_driver = driven_once;
  in_order = in_order;
  once = held_once;
  limits = record { nets = omega arith; regs = omega arith; inputs = omega arith; outputs = omega arith; reset_len = omega arith };
}
