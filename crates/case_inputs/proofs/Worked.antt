-- A net under an assumption, and pins of it, computed: a buffer that drives the net, and what reads it.
use Rattle.std.proofs.Common.{◌≡◌, ℕ, ◌≤◌, ◌<◌, Bool, true, false, List, [], ◌∷◌, refl, arith, length}
use Rattle.std.specs.Prelude.{None}
use Rattle.net_model.specs.Form.{PinForm, AndForm}
use Rattle.net_model.specs.Paths.{To_gate, To_reg, To_output}
use Rattle.net_model.specs.declared.netlist.Design.{Design}
use Rattle.net_model.specs.declared.netlist.Fixed.{Fixed}
use Rattle.net_model.specs.declared.netlist.Gate.{Gate}
use Rattle.net_model.specs.declared.netlist.Reg.{Reg}
use Rattle.net_model.specs.declared.claims.PinRef.{PinRef}
use Rattle.net_model.specs.declared.claims.PinRef.TheVariants.{Net, GateIn, RegIn, OutPort}
use Rattle.case_inputs.specs.declared.assumptions.Assumed.{Assumed}
use Rattle.case_inputs.specs.declared.faults.AssumeFault.TheVariants.{Nets, Inputs}
use Rattle.case_inputs.specs.Assumed.{assumed_design, CanFix}
use Rattle.case_inputs.specs.Faults.{IsAssumeCause}
use Rattle.case_inputs.specs.Runs.{AreShadowsKept, IsKept, with_assumed, without_assumed}

-- n = d
abbrev buffer : List ℕ → Gate
buffer ins = record { func = PinForm 0; ins = ins; out = 1 }

-- m = n & d
abbrev both : List ℕ → Gate
both ins = record { func = AndForm (PinForm 0) (PinForm 1); ins = ins; out = 2 }

-- q takes n
abbrev flop : List ℕ → Reg
flop ins = record {
  next = PinForm 0;
  clear = None;
  preset = None;
  both = false;
  ins = ins;
  outs = record { net = 3; inverted = false } ∷ [];
}

-- module top (input clk, d, output y, z); wire n, m, q; BUF g (.A(d), .Y(n)); AND2 h (.A(n), .B(d), .Y(m)); DFF r (.D(n), .CK(clk), .Q(q));
-- assign y = n; assign z = q; endmodule
abbrev fan : Design
fan = record {
  nets = 4;
  gates = buffer (0 ∷ []) ∷ both (1 ∷ 0 ∷ []) ∷ [];
  regs = flop (1 ∷ []) ∷ [];
  inputs = 0 ∷ [];
  outputs = 1 ∷ 3 ∷ [];
  fixed = [];
  resets = [];
  reset_len = 0;
}

abbrev on : List PinRef → Bool → Assumed
on pins value = record { pins = pins; value = value }

abbrev held : ℕ → Bool → Fixed
held input value = record { input = input; value = value }

-- all that reads the net reads the new one, and the buffer drives the net as before
net_is_assumed : assumed_design fan [] (on (Net 1 ∷ []) false ∷ [])
    ≡ record {
      nets = 5;
      gates = buffer (0 ∷ []) ∷ both (4 ∷ 0 ∷ []) ∷ [];
      regs = flop (4 ∷ []) ∷ [];
      inputs = 0 ∷ 4 ∷ [];
      outputs = 4 ∷ 3 ∷ [];
      fixed = held 1 false ∷ [];
      resets = [];
      reset_len = 0;
    }
unfolding assumed_design
net_is_assumed = refl

-- a pin alone, and what else reads its net reads that
pin_is_assumed : (assumed_design fan [] (on (GateIn 1 0 ∷ []) true ∷ [])).gates ≡ buffer (0 ∷ []) ∷ both (4 ∷ 0 ∷ []) ∷ []
unfolding assumed_design
pin_is_assumed = refl

register_beside_it_is_not : (assumed_design fan [] (on (GateIn 1 0 ∷ []) true ∷ [])).regs ≡ flop (1 ∷ []) ∷ []
unfolding assumed_design
register_beside_it_is_not = refl

port_beside_it_is_not : (assumed_design fan [] (on (GateIn 1 0 ∷ []) true ∷ [])).outputs ≡ 1 ∷ 3 ∷ []
unfolding assumed_design
port_beside_it_is_not = refl

-- a place of another gate is another pin
other_pin_is_assumed : (assumed_design fan [] (on (GateIn 1 1 ∷ GateIn 0 1 ∷ RegIn 1 0 ∷ []) true ∷ [])).gates ≡ buffer (0 ∷ []) ∷ both (1 ∷ 4 ∷ []) ∷ []
unfolding assumed_design
other_pin_is_assumed = refl

-- several pins of one assumption read one net
pins_are_assumed_together : (assumed_design fan [] (on (RegIn 0 0 ∷ OutPort 1 ∷ []) true ∷ [])).outputs ≡ 1 ∷ 4 ∷ []
unfolding assumed_design
pins_are_assumed_together = refl

register_is_assumed : (assumed_design fan [] (on (RegIn 0 0 ∷ OutPort 1 ∷ []) true ∷ [])).regs ≡ flop (4 ∷ []) ∷ []
unfolding assumed_design
register_is_assumed = refl

-- of two that are of one pin the first counts, and each has its net, its input and its value
first_counts : assumed_design fan (held 0 true ∷ []) (on (GateIn 1 0 ∷ []) true ∷ on (Net 1 ∷ []) false ∷ [])
    ≡ record {
      nets = 6;
      gates = buffer (0 ∷ []) ∷ both (4 ∷ 0 ∷ []) ∷ [];
      regs = flop (5 ∷ []) ∷ [];
      inputs = 0 ∷ 4 ∷ 5 ∷ [];
      outputs = 5 ∷ 3 ∷ [];
      fixed = held 0 true ∷ held 1 true ∷ held 2 false ∷ [];
      resets = [];
      reset_len = 0;
    }
unfolding assumed_design
first_counts = refl

-- an assumption on a net that nothing reads is there all the same
unread_net_is_assumed : assumed_design fan [] (on (Net 2 ∷ []) true ∷ [])
    ≡ record fan { nets = 5; inputs = 0 ∷ 4 ∷ []; fixed = held 1 true ∷ [] }
unfolding assumed_design
unread_net_is_assumed = refl

-- inputs stay fixed and reset, and the new ones come last
fixed_come_in_order : (assumed_design (record fan { inputs = 0 ∷ 2 ∷ []; fixed = held 1 false ∷ [] }) (held 0 true ∷ []) (on [] true ∷ [])).fixed
    ≡ held 1 false ∷ held 0 true ∷ held 2 true ∷ []
unfolding assumed_design
fixed_come_in_order = refl

resets_stay : (assumed_design (record fan { resets = held 0 true ∷ []; reset_len = 2 }) [] (on (Net 1 ∷ []) true ∷ [])).resets ≡ held 0 true ∷ []
unfolding assumed_design
resets_stay = refl

reset_length_stays : (assumed_design (record fan { resets = held 0 true ∷ []; reset_len = 2 }) [] (on (Net 1 ∷ []) true ∷ [])).reset_len ≡ 2
unfolding assumed_design
reset_length_stays = refl

-- the limits, told with the number that there would be
nets_are_told : IsAssumeCause (record fan { nets = 200000 }) (on [] true ∷ []) (Nets 200001)
nets_are_told = (refl, omega arith)

last_net_has_room : ¬ IsAssumeCause (record fan { nets = 199999 }) (on [] true ∷ []) (Nets 200000)
last_net_has_room cause = omega (arith, cause.1)

inputs_are_told : (inputs : List ℕ) → length inputs ≡ 20000 → IsAssumeCause (record fan { inputs = inputs }) (on [] true ∷ []) (Inputs 20001)
inputs_are_told inputs count = (omega arith, omega (arith, count), omega arith)

last_input_has_room : (inputs : List ℕ) → length inputs ≡ 19999 → ¬ IsAssumeCause (record fan { inputs = inputs }) (on [] true ∷ []) (Inputs 20000)
last_input_has_room inputs count cause = omega (arith, cause.2)

nets_are_told_first : ¬ IsAssumeCause (record fan { nets = 200000 }) (on [] true ∷ []) (Inputs 20001)
nets_are_told_first cause = omega (arith, cause.0)

-- an input is fixed once
input_is_not_fixed_twice : ¬ CanFix fan (held 0 true ∷ held 0 true ∷ [])
input_is_not_fixed_twice can = let once : 2 ≤ 1 = can.once 0 (omega arith) in omega (arith, once)

fixed_input_is_not_fixed_again : ¬ CanFix (record fan { fixed = held 0 true ∷ [] }) (held 0 true ∷ [])
fixed_input_is_not_fixed_again can = let once : 2 ≤ 1 = can.once 0 (omega arith) in omega (arith, once)

reset_input_is_not_fixed : ¬ CanFix (record fan { resets = held 0 true ∷ [] }) (held 0 true ∷ [])
reset_input_is_not_fixed can = let once : 2 ≤ 1 = can.once 0 (omega arith) in omega (arith, once)

only_inputs_are_fixed : ¬ CanFix fan (held 1 true ∷ [])
only_inputs_are_fixed can = let low : 1 < 1 = can.in_range 0 0 (omega arith) in omega (arith, low)

-- where d and so n is 1, n isn't 0 at its loads
gate_reads_another_value : ¬ AreShadowsKept fan (on (Net 1 ∷ []) false ∷ []) (true ∷ true ∷ true ∷ true ∷ [])
gate_reads_another_value kept =
    let bad : true ≡ false = kept 1 (GateIn 1 0) 0 (on (Net 1 ∷ []) false) (To_gate 1 (both (1 ∷ 0 ∷ [])) 0 refl (omega arith)) refl refl in cc

register_reads_another_value : ¬ AreShadowsKept fan (on (RegIn 0 0 ∷ []) false ∷ []) (true ∷ true ∷ true ∷ true ∷ [])
register_reads_another_value kept =
    let bad : true ≡ false = kept 1 (RegIn 0 0) 0 (on (RegIn 0 0 ∷ []) false) (To_reg 0 (flop (1 ∷ [])) 0 refl (omega arith)) refl refl in cc

port_reads_another_value : ¬ AreShadowsKept fan (on (Net 2 ∷ []) true ∷ on (Net 3 ∷ []) false ∷ []) (true ∷ true ∷ true ∷ true ∷ [])
port_reads_another_value kept =
    let bad : true ≡ false = kept 3 (OutPort 1) 1 (on (Net 3 ∷ []) false) (To_output 1 (omega arith)) refl refl in cc

-- an input that is fixed besides has its value too
fixed_input_has_another_value : ¬ IsKept fan (held 0 false ∷ []) [] (record { bits = true ∷ []; ins = true ∷ []; nets = true ∷ true ∷ true ∷ true ∷ [] })
fixed_input_has_another_value kept = let bad : true ≡ false = kept.fixed 0 (held 0 false) (omega arith) in cc

-- the values stand after the bits of inputs and nets
values_come_last : with_assumed (on (Net 1 ∷ []) false ∷ on (Net 2 ∷ []) true ∷ []) (record { bits = true ∷ []; ins = false ∷ []; nets = false ∷ false ∷ [] })
    ≡ record { bits = true ∷ []; ins = false ∷ false ∷ true ∷ []; nets = false ∷ false ∷ false ∷ true ∷ [] }
values_come_last = refl

values_are_left_out : without_assumed (record fan { nets = 2 }) (record { bits = true ∷ []; ins = false ∷ true ∷ []; nets = false ∷ false ∷ true ∷ [] })
    ≡ record { bits = true ∷ []; ins = false ∷ []; nets = false ∷ false ∷ [] }
values_are_left_out = refl
