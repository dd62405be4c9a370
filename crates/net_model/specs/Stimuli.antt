-- The run that a stimulus stands for.
use Rattle.std.specs.Prelude.{◌≡◌, ℕ, ◌<◌, Bool, List, length, map, Some, slice_get, nat_lt}
use Rattle.net_model.specs.Cycles.{AreFixedKept, AreResets, IsRun}
use Rattle.net_model.specs.declared.netlist.Design.{Design}
use Rattle.net_model.specs.declared.cycles.Cycle.{Cycle}
use Rattle.net_model.specs.declared.cycles.Stimulus.{Stimulus}

-- a cycle's input bits: one for each input, with fixed inputs kept and resets active or else inactive
pub record AreInputs (d : Design) (active : Bool) (ins : List Bool) : Type 0 where
  pub count : length ins ≡ length d.inputs
  pub fixed : AreFixedKept d ins
  pub resets : AreResets d active ins

-- a stimulus for a run from reset: a bit for each register, and lawful input bits for each of one or more cycles
pub record IsLawful (d : Design) (s : Stimulus) : Type 0 where
  pub state : length s.state ≡ length d.regs
  pub some : 0 < length s.inputs
  pub inputs : (t : ℕ) (ins : List Bool) → slice_get s.inputs t ≡ Some ins → AreInputs d (nat_lt t d.reset_len) ins

-- the run begins with the stimulus's register bits, and its cycles have the stimulus's input bits
pub record StandsFor (s : Stimulus) (run : List Cycle) : Type 0 where
  pub state : (c : Cycle) → slice_get run 0 ≡ Some c → c.bits ≡ s.state
  pub inputs : map (λ (c : Cycle). c.ins) run ≡ s.inputs

-- there is exactly one run from reset that the stimulus stands for
pub record HasOneRun (d : Design) (s : Stimulus) : Type 0 where
  pub run : List Cycle
  pub from_reset : IsRun d run
  pub stands : StandsFor s run
  pub only : (other : List Cycle) → IsRun d other → StandsFor s other → other ≡ run

-- there is a lawful stimulus of this many cycles, with the one run that it stands for
pub record HasStimulus (d : Design) (cycles : ℕ) : Type 0 where
  pub stimulus : Stimulus
  pub count : length stimulus.inputs ≡ cycles
  pub lawful : IsLawful d stimulus
  pub one_run : HasOneRun d stimulus
