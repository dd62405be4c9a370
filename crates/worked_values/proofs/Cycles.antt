-- Settled cycles, resets and runs.
use Rattle.std.proofs.Common.{◌≡◌, ℕ, zero, suc, ◌<◌, Bool, true, false, [], ◌∷◌, Some, refl, subst, arith}
use Rattle.std.specs.Prelude.{All, slice_get, slice_index}
use Rattle.net_model.specs.Form.{PinForm}
use Rattle.net_model.specs.declared.netlist.Design.{Design}
use Rattle.net_model.specs.declared.netlist.Gate.{Gate}
use Rattle.net_model.specs.declared.netlist.Reg.{Reg}
use Rattle.net_model.specs.declared.netlist.RegOut.{RegOut}
use Rattle.net_model.specs.declared.cycles.Cycle.{Cycle}
use Rattle.net_model.specs.Form.{value}
use Rattle.net_model.specs.Cycles.{IsSettled, IsNext, IsRun, AreFixedKept, AreResets, bit_at, shown, gate_pins}
use Rattle.worked_values.specs.Designs.{flop, buffer, looped}

-- a cycle in which the register is 1, the input 0, and net 2 this
abbrev pub cycle : Bool → Cycle
cycle net = record { bits = true ∷ []; ins = false ∷ []; nets = false ∷ true ∷ net ∷ [] }

-- the input's net has the input's bit
input_is_shown : (i : ℕ) → i < 1 → bit_at (cycle true).nets (slice_index looped.inputs i) ≡ bit_at (cycle true).ins i
input_is_shown zero below = refl
input_is_shown (suc i) below = absurd (omega (arith, below))

-- the register's net has its bit
register_is_shown : (r : ℕ) (reg : Reg) → slice_get looped.regs r ≡ Some reg
    → All (λ (o : RegOut). bit_at (cycle true).nets o.net ≡ shown o (bit_at (cycle true).bits r)) reg.outs
register_is_shown zero reg at =
    let same : flop (PinForm 0) (2 ∷ []) 1 ≡ reg = cc in
    subst (λ (x : Reg). All (λ (o : RegOut). bit_at (cycle true).nets o.net ≡ shown o true) x.outs) same outs
  where
    outs : All (λ (o : RegOut). bit_at (cycle true).nets o.net ≡ shown o true) (flop (PinForm 0) (2 ∷ []) 1).outs
    outs zero d below = refl
    outs (suc k) d below = absurd (omega (arith, below))
register_is_shown (suc r) reg at = absurd cc

-- the buffer's net has the bit of the net that it reads
buffer_is_settled : (k : ℕ) (g : Gate) → slice_get looped.gates k ≡ Some g
    → bit_at (cycle true).nets g.out ≡ value g.func (gate_pins g.ins (cycle true).nets)
buffer_is_settled zero g at =
    let same : buffer 1 2 ≡ g = cc in subst (λ (x : Gate). bit_at (cycle true).nets x.out ≡ value x.func (gate_pins x.ins (cycle true).nets)) same refl
buffer_is_settled (suc k) g at = absurd cc

-- so the cycle is settled
pub cycle_with_the_buffered_bit_is_settled : IsSettled looped (cycle true)
cycle_with_the_buffered_bit_is_settled = record {
  shape = record { bits = refl; ins = refl; nets = refl };
  inputs = input_is_shown;
  regs = register_is_shown;
  gates = buffer_is_settled;
}

-- and it is not where the buffer gives another bit
cycle_with_another_bit_is_not_settled : ¬ IsSettled looped (cycle false)
cycle_with_another_bit_is_not_settled settled = let e = settled.gates 0 (buffer 1 2) refl in cc

-- nor where a net has no bit
cycle_without_a_nets_bit_is_not_settled : ¬ IsSettled looped (record { bits = true ∷ []; ins = false ∷ []; nets = false ∷ true ∷ [] })
cycle_without_a_nets_bit_is_not_settled settled = omega (arith, settled.shape.nets)

-- the register captures the buffered bit, so it can't be 0 in the next cycle
register_does_not_lose_its_capture : ¬ IsNext looped (cycle true) (record { bits = false ∷ []; ins = false ∷ []; nets = false ∷ false ∷ false ∷ [] })
register_does_not_lose_its_capture next = let e = next 0 (omega arith) in cc

-- no run has no cycles
run_without_cycles_is_none : ¬ IsRun looped []
run_without_cycles_is_none run = omega (arith, run.linked.some)

-- input 0 is fixed to 1, and input 1 is 0 in the reset
abbrev held : Design
held = record looped {
  inputs = 0 ∷ 1 ∷ [];
  fixed = (record { input = 0; value = true }) ∷ [];
  resets = (record { input = 1; value = false }) ∷ [];
}

-- a fixed input keeps its value
fixed_input_does_not_change : ¬ AreFixedKept held (false ∷ true ∷ [])
fixed_input_does_not_change kept = let e = kept 0 (record { input = 0; value = true }) (omega arith) in cc

-- a reset is active in a cycle of the reset
reset_is_active_in_the_reset : ¬ AreResets held true (true ∷ true ∷ [])
reset_is_active_in_the_reset resets = let e = resets 0 (record { input = 1; value = false }) (omega arith) in cc

-- and inactive in any later one
reset_is_inactive_after_the_reset : ¬ AreResets held false (true ∷ false ∷ [])
reset_is_inactive_after_the_reset resets = let e = resets 0 (record { input = 1; value = false }) (omega arith) in cc
