-- The bits from which linked cycles are made.
use Rattle.std.specs.Prelude.{◌≡◌, ℕ, ◌<◌, Bool, List, length, All}
use Rattle.net_model.specs.Cycles.{bit_at, capture, AreFixedKept}
use Rattle.net_model.specs.declared.netlist.Design.{Design}
use Rattle.net_model.specs.declared.cycles.Cycle.{Cycle}
use Rattle.net_model.specs.declared.cycles.Stimulus.{Stimulus}
use Rattle.net_model.specs.declared.claims.End.TheVariants.{Reg}

-- one bit for each register, its capture in the cycle
pub record AreCaptures (d : Design) (c : Cycle) (bits : List Bool) : Type 0 where
  pub count : length bits ≡ length d.regs
  pub each : (r : ℕ) → r < length d.regs → bit_at bits r ≡ capture d (Reg r) c

-- a cycle's input bits: one for each input, with fixed inputs kept
pub record KeepFixed (d : Design) (ins : List Bool) : Type 0 where
  pub count : length ins ≡ length d.inputs
  pub fixed : AreFixedKept d ins

-- a stimulus for linked cycles: a bit for each register, and input bits for each of one or more cycles
pub record IsLinkable (d : Design) (s : Stimulus) : Type 0 where
  pub state : length s.state ≡ length d.regs
  pub some : 0 < length s.inputs
  pub inputs : All (KeepFixed d) s.inputs
