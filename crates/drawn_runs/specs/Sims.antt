-- Sixty-four drawn runs at one cycle.
use Rattle.std.specs.Prelude.{◌≡◌, ℕ, ◌+◌, ◌<◌, Bool, List, length, Some, slice_get, nat_lt}
use Rattle.net_model.specs.Cycles.{bit_at, capture, IsSettled, IsNext}
use Rattle.net_model.specs.Stimuli.{AreInputs}
use Rattle.net_model.specs.LaneBits.{lane_row, lane_cycle}
use Rattle.net_model.specs.declared.netlist.Design.{Design}
use Rattle.net_model.specs.declared.cycles.Cycle.{Cycle}
use Rattle.net_model.specs.declared.claims.End.TheVariants.{Reg as RegEnd}
use Rattle.net_model.specs.declared.lane_words.Lanes.{Lanes}
use Rattle.drawn_runs.specs.Draws.{after}
use Rattle.drawn_runs.specs.Drawn.{words_before, AreFirst, AreFree, IsDrawn}
use Rattle.drawn_runs.specs.declared.sims.Sim.{Sim}

-- a word for each register, whose lanes are the first register bits of the runs
pub record AreFirst64 (d : Design) (bits : List Lanes) : Type 0 where
  pub count : length bits ≡ length d.regs
  pub each : (i : ℕ) → i < 64 → AreFirst d i (lane_row i bits)

-- cycle t of drawn run i, by itself: settled, with lawful input bits that are drawn where they are free
pub record IsDrawnCycle (d : Design) (i t : ℕ) (c : Cycle) : Type 0 where
  pub settled : IsSettled d c
  pub lawful : AreInputs d (nat_lt t d.reset_len) c.ins
  pub free : AreFree d i (words_before d t) c.ins

-- the first t cycles of drawn run i, after which come these register bits
pub record IsRunTo (d : Design) (i t : ℕ) (bits : List Bool) (run : List Cycle) : Type 0 where
  pub count : length run ≡ t
  pub each : (k : ℕ) (c : Cycle) → slice_get run k ≡ Some c → IsDrawnCycle d i k c
  pub next : (k : ℕ) (before c : Cycle) → slice_get run k ≡ Some before → slice_get run (k + 1) ≡ Some c → IsNext d before c
  pub first : (c : Cycle) → slice_get run 0 ≡ Some c → AreFirst d i c.bits
  pub begins : t ≡ 0 → AreFirst d i bits
  pub follows : (k : ℕ) (c : Cycle) → slice_get run k ≡ Some c → k + 1 ≡ t → (r : ℕ) → r < length d.regs → bit_at bits r ≡ capture d (RegEnd r) c

-- there are such cycles
abbrev pub HasRunTo : Design → ℕ → ℕ → List Bool → Type 0
HasRunTo d i t bits = (run : List Cycle) × IsRunTo d i t bits run

-- these are the register bits of drawn run i in cycle t
abbrev pub AreBitsOf : Design → ℕ → ℕ → List Bool → Type 0
AreBitsOf d i t bits = (run : List Cycle) (c : Cycle) → IsDrawn d i run → slice_get run t ≡ Some c → c.bits ≡ bits

-- this is cycle t of drawn run i
abbrev pub IsCycleOf : Design → ℕ → ℕ → Cycle → Type 0
IsCycleOf d i t here = (run : List Cycle) (c : Cycle) → IsDrawn d i run → slice_get run t ≡ Some c → c ≡ here

-- a lane of the words
abbrev pub cycle_of : ℕ → Sim → Cycle
cycle_of i sim = lane_cycle i sim.bits sim.ins sim.nets

-- the lanes have the register bits of cycle t
pub record IsAt (d : Design) (t : ℕ) (sim : Sim) : Type 0 where
  pub bits : length sim.bits ≡ length d.regs
  pub ins : length sim.ins ≡ length d.inputs
  pub nets : length sim.nets ≡ d.nets
  pub drawn : sim.rng ≡ after (words_before d t)
  pub ran : (i : ℕ) → i < 64 → HasRunTo d i t (lane_row i sim.bits)
  pub only : (i : ℕ) → i < 64 → AreBitsOf d i t (lane_row i sim.bits)

-- each lane is cycle t of its run
pub record IsSettledAt (d : Design) (t : ℕ) (sim : Sim) : Type 0 where
  pub bits : length sim.bits ≡ length d.regs
  pub ins : length sim.ins ≡ length d.inputs
  pub nets : length sim.nets ≡ d.nets
  pub drawn : sim.rng ≡ after (words_before d (t + 1))
  pub ran : (i : ℕ) → i < 64 → HasRunTo d i t (lane_row i sim.bits)
  pub each : (i : ℕ) → i < 64 → IsDrawnCycle d i t (cycle_of i sim)
  pub only : (i : ℕ) → i < 64 → IsCycleOf d i t (cycle_of i sim)
