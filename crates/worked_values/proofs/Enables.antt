-- Registers behind clock gates, as registers with enables.
use Rattle.std.proofs.Common.{◌≡◌, false, [], ◌∷◌, Some, None, refl}
use Rattle.std.specs.Option.{option_map}
use Rattle.net_model.specs.Form.{PinForm, NotForm, AndForm, OrForm}
use Rattle.net_model.specs.declared.netlist.Reg.{Reg}
use Rattle.icg_rewrite.specs.declared.clock_gates.ClockGate.{ClockGate}
use Rattle.icg_rewrite.specs.Rewritten.{raised, next_or_own, gated_reg, enable_gate, rewritten}
use Rattle.worked_values.specs.Designs.{gated, enabled}

-- D, and a clear pin
abbrev flop : Reg
flop = record {
  next = PinForm 0;
  clear = Some (NotForm (PinForm 1));
  preset = None;
  both = false;
  ins = 3 ∷ 4 ∷ [];
  outs = (record { net = 5; inverted = false }) ∷ [];
}

-- the clear function stays as it was, whatever the clock gate does
clear_does_not_wait_for_the_enable : option_map (raised 2) flop.clear ≡ Some (NotForm (PinForm 1))
clear_does_not_wait_for_the_enable = refl

-- where place 1 has the enable and place 2 the own bit: (en and next) or (not en and own)
closed_gate_keeps_the_own_bit : next_or_own 1 (PinForm 0) ≡ OrForm (AndForm (PinForm 1) (PinForm 0)) (AndForm (NotForm (PinForm 1)) (PinForm 2))
closed_gate_keeps_the_own_bit = refl

-- a next state that reads the own bit reads it one place further
own_bit_moves_behind_the_enable : next_or_own 1 (PinForm 1) ≡ OrForm (AndForm (PinForm 1) (PinForm 2)) (AndForm (NotForm (PinForm 1)) (PinForm 2))
own_bit_moves_behind_the_enable = refl

-- a clock gate below another
abbrev inner : ClockGate
inner = record { func = PinForm 0; ins = 4 ∷ []; parent = Some 0 }

-- passes where its function is 1 and that of the other one passes, whose net is 6 + 0
gate_waits_for_the_one_above_it : enable_gate 6 1 inner ≡ (record { func = AndForm (PinForm 0) (PinForm 1); ins = 4 ∷ 6 ∷ []; out = 7 })
gate_waits_for_the_one_above_it = refl

-- the register behind it has its net as a last pin
register_has_its_gate_as_last_pin : gated_reg 6 flop (Some 1) ≡ (record {
  next = OrForm (AndForm (PinForm 2) (PinForm 0)) (AndForm (NotForm (PinForm 2)) (PinForm 3));
  clear = Some (NotForm (PinForm 1));
  preset = None;
  both = false;
  ins = 3 ∷ 4 ∷ 7 ∷ [];
  outs = (record { net = 5; inverted = false }) ∷ [];
})
register_has_its_gate_as_last_pin = refl

-- one behind none stays as it is
register_behind_no_gate_stays : gated_reg 6 flop None ≡ flop
register_behind_no_gate_stays = refl

-- a register behind a clock gate takes its next state where the enable is 1, and else keeps its bit
pub gated_register_keeps_its_bit : rewritten gated ≡ enabled
unfolding rewritten
gated_register_keeps_its_bit = refl
