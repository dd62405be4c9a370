-- What a claim judges: captures, edges, toggles, and what registers capture.
use Rattle.std.proofs.Common.{◌≡◌, ℕ, zero, suc, Bool, true, false, [], ◌∷◌, Some, refl, sym, arith}
use Rattle.sdcv_base.specs.declared.kinds.Kind.TheVariants.{False, Multi}
use Rattle.sdcv_base.specs.declared.kinds.Edge.TheVariants.{Any, Rise}
use Rattle.net_model.specs.Form.{PinForm}
use Rattle.net_model.specs.declared.netlist.Design.{Design}
use Rattle.net_model.specs.declared.netlist.Reg.{Reg}
use Rattle.net_model.specs.declared.cycles.Cycle.{Cycle}
use Rattle.net_model.specs.declared.claims.Start.TheVariants.{Reg as RegStart}
use Rattle.net_model.specs.declared.claims.PinRef.TheVariants.{GateIn}
use Rattle.net_model.specs.Cycles.{reg_capture, shown, bit_at}
use Rattle.net_model.specs.Judge.{judged_by, Toggles}
use Rattle.net_model.specs.Fits.{IsKindFit, IsLagFit}
use Rattle.net_model.specs.Held.{is_held, free_below}
use Rattle.net_model.specs.Layers.{pin_reads}

-- a false path judges the first capture after a toggle
false_path_judges_one_capture : judged_by False 0 ≡ 1
false_path_judges_one_capture = refl

-- and one for each cycle of its lag
false_path_judges_a_capture_for_each_cycle_of_its_lag : judged_by False 3 ≡ 4
false_path_judges_a_capture_for_each_cycle_of_its_lag = refl

-- a multiplier judges one capture less
multiplier_of_2_judges_one_capture : judged_by (Multi 2) 0 ≡ 1
multiplier_of_2_judges_one_capture = refl

-- the greatest multiplier judges the most
multiplier_of_16_judges_fifteen_captures : judged_by (Multi 16) 0 ≡ 15
multiplier_of_16_judges_fifteen_captures = refl

-- and a multiplier of 1 none
multiplier_of_1_judges_nothing : judged_by (Multi 1) 0 ≡ 0
multiplier_of_1_judges_nothing = refl

-- multipliers are 1 to 16
multiplier_of_17_is_refused : ¬ IsKindFit (Multi 17)
multiplier_of_17_is_refused fit = omega (arith, fit.1)

-- no path takes 0 cycles
multiplier_of_0_is_refused : ¬ IsKindFit (Multi 0)
multiplier_of_0_is_refused fit = omega (arith, fit.0)

-- no lag is above 8
lag_of_9_is_refused : ¬ IsLagFit False 9
lag_of_9_is_refused fit = omega (arith, fit)

-- a multicycle path has no lag
multicycle_path_with_a_lag_is_refused : ¬ IsLagFit (Multi 2) 1
multicycle_path_with_a_lag_is_refused fit = omega (arith, fit)

-- next state at place 0, clear at place 1, preset at place 2; where both are 1 the bit is 1
abbrev flop : Reg
flop = record {
  next = PinForm 0;
  clear = Some (PinForm 1);
  preset = Some (PinForm 2);
  both = true;
  ins = 0 ∷ 1 ∷ 2 ∷ [];
  outs = (record { net = 3; inverted = false }) ∷ (record { net = 4; inverted = true }) ∷ [];
}

-- what the three places read
abbrev bits : Bool → Bool → Bool → ℕ → Bool
bits next clear preset zero = next
bits next clear preset (suc zero) = clear
bits next clear preset (suc (suc k)) = preset

-- without clear and preset the next state counts
register_captures_its_next_state : reg_capture flop (bits true false false) ≡ true
register_captures_its_next_state = refl

-- a clear gives 0
clear_is_stronger_than_the_next_state : reg_capture flop (bits true true false) ≡ false
clear_is_stronger_than_the_next_state = refl

-- a preset gives 1
preset_is_stronger_than_the_next_state : reg_capture flop (bits false false true) ≡ true
preset_is_stronger_than_the_next_state = refl

-- both together give the bit that the cell states
clear_and_preset_together_give_the_stated_bit : reg_capture flop (bits false true true) ≡ true
clear_and_preset_together_give_the_stated_bit = refl

-- an inverted output shows the complement
inverted_output_shows_the_complement : shown (record { net = 4; inverted = true }) true ≡ false
inverted_output_shows_the_complement = refl

-- any other output shows the bit itself
output_shows_the_bit : shown (record { net = 3; inverted = false }) true ≡ true
output_shows_the_bit = refl

-- inputs 0 and 2 are free, 1 is fixed and 3 a reset
abbrev design : Design
design = record {
  nets = 4;
  gates = [];
  regs = [];
  inputs = 0 ∷ 1 ∷ 2 ∷ 3 ∷ [];
  outputs = [];
  fixed = (record { input = 1; value = true }) ∷ [];
  resets = (record { input = 3; value = false }) ∷ [];
  reset_len = 2;
}

-- a fixed input has no bit of its own
fixed_input_is_held : is_held design 1 ≡ true
fixed_input_is_held = refl

-- nor has a reset input
reset_input_is_held : is_held design 3 ≡ true
reset_input_is_held = refl

-- so two of the four are free
two_inputs_are_free : free_below design 4 ≡ 2
unfolding free_below
two_inputs_are_free = refl

-- in the layer after the first, a pin of the set reads what it read in the first one
pin_of_the_set_reads_the_layer_before : pin_reads false ((GateIn 0 0 ∷ []) ∷ []) ((true ∷ []) ∷ (false ∷ []) ∷ []) 1 (GateIn 0 0) 0 ≡ true
pin_of_the_set_reads_the_layer_before = refl

-- the other pin of the same gate reads its net in that layer
pin_of_no_set_reads_its_net : pin_reads false ((GateIn 0 0 ∷ []) ∷ []) ((true ∷ []) ∷ (false ∷ []) ∷ []) 1 (GateIn 0 1) 0 ≡ false
pin_of_no_set_reads_its_net = refl

-- a register whose bit was 0 and is 1, after one reset cycle
abbrev cycle : Bool → Cycle
cycle bit = record { bits = bit ∷ []; ins = []; nets = [] }

-- cycle 1 is the first live one, so a toggle in it, from the last reset cycle, does not count
toggle_in_the_first_live_cycle_does_not_count : (stale : Bool) → ¬ Toggles 1 Any (RegStart 0) (cycle false ∷ cycle true ∷ []) 1 stale
toggle_in_the_first_live_cycle_does_not_count stale toggles = omega (arith, toggles.is_live)

-- and one after it does
toggle_after_the_first_live_cycle_counts : Toggles 1 Rise (RegStart 0) (cycle true ∷ cycle false ∷ cycle true ∷ []) 2 false
toggle_after_the_first_live_cycle_counts = record {
  before = cycle false;
  now = cycle true;
  before_at = refl;
  now_at = refl;
  is_live = omega arith;
  stale_is = refl;
  differs = λ same. cc;
  edge_is = refl;
}

-- a start that keeps its bit toggles not
kept_bit_is_no_toggle : (stale : Bool) → ¬ Toggles 0 Any (RegStart 0) (cycle true ∷ cycle true ∷ []) 1 stale
kept_bit_is_no_toggle stale toggles = kept toggles.before toggles.now toggles.before_at toggles.now_at toggles.stale_is toggles.differs
  where
    kept : (before now : Cycle) → Some (cycle true) ≡ Some before → Some (cycle true) ≡ Some now → bit_at before.bits 0 ≡ stale
        → ¬ (bit_at now.bits 0 ≡ stale) → ⊥
    kept before now at_before at_now is differs =
        let one : cycle true ≡ before = cc in
        let other : cycle true ≡ now = cc in
        differs (let e = rw (sym one) at is in rw (sym other) e)
