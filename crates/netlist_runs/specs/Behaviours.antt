-- What a flat netlist does over time, whatever the cells do that are cut out of it, and the runs that show it.
use Rattle.std.specs.Prelude.{◌≡◌, ℕ, ◌+◌, Bool, List, length, map, All, Contains, Option, Some, slice_get, nat_lt}
use Rattle.net_model.specs.Cycles.{bit_at, AreFixedKept, AreResets, IsRun}
use Rattle.net_model.specs.declared.netlist.Design.{Design}
use Rattle.net_model.specs.declared.netlist.Reg.{Reg}
use Rattle.net_model.specs.declared.cycles.Cycle.{Cycle}
use Rattle.link_defs.specs.declared.circuits.Circuit.{Circuit}
use Rattle.link_defs.specs.declared.circuits.Part.TheVariants as part
use Rattle.link_defs.specs.Circuits.{regs_of}
use Rattle.link_defs.specs.Designs.{IsSolution, equations, captured, shows}
use Rattle.link_defs.specs.Above.{Under, Passes}
use Rattle.link_defs.specs.GatedDesigns.{Flop, flops_of, kept}

-- the clock comes through to the register, where nets have these bits
pub record ComesThrough (c : Circuit) (v : ℕ → Bool) (x : Flop) : Type 0 where
  pub up : Option ℕ
  pub under : Under c x.clock up
  pub passes : Passes c v up

-- what the netlist does over time: a bit for each flat net in each cycle, and one for each register. In each cycle the outputs of registers
-- show their bits, all equations hold, and fixed and reset inputs have their values; in the next one a register has what it captures where
-- the clock comes through to it, and else keeps its bit, but for clear and preset. Nothing is said of the nets that cut cells drive
pub record Behaves (c : Circuit) (tree : List Bool) (d : Design) (v : ℕ → ℕ → Bool) (bits : ℕ → List Bool) : Type 0 where
  pub long : (t : ℕ) → length (bits t) ≡ length (regs_of c)
  pub solved : (t : ℕ) → IsSolution c (equations tree c) (bits t) (map (v t) c.inputs) (v t)
  pub fixed : (t : ℕ) → AreFixedKept d (map (v t) c.inputs)
  pub resets : (t : ℕ) → AreResets d (nat_lt t d.reset_len) (map (v t) c.inputs)
  pub passed : (t r : ℕ) (x : Flop) → slice_get (flops_of c) r ≡ Some x → ComesThrough c (v t) x
      → bit_at (bits (t + 1)) r ≡ captured x.reg (bit_at (bits t) r) (v t)
  pub stopped : (t r : ℕ) (x : Flop) → slice_get (flops_of c) r ≡ Some x → (ComesThrough c (v t) x → ⊥)
      → bit_at (bits (t + 1)) r ≡ captured (kept x.reg) (bit_at (bits t) r) (v t)

-- what registers and clock gates read as data are some of these nets
pub record AreDriven (c : Circuit) (drivers : List ℕ) : Type 0 where
  pub regs : (clock : ℕ) (reg : Reg) → Contains c.parts (part.Flop clock reg) → All (Contains drivers) reg.ins
  pub gates : (clock : ℕ) (enables : List ℕ) (out : ℕ) → Contains c.parts (part.Gate clock enables out) → All (Contains drivers) enables

-- in each of its cycles the run has these register bits, and shows these bits on the flat nets that are nets of the design
pub record ShowsBehaviour (drivers : List ℕ) (v : ℕ → ℕ → Bool) (bits : ℕ → List Bool) (run : List Cycle) : Type 0 where
  pub regs : (t : ℕ) (y : Cycle) → slice_get run t ≡ Some y → y.bits ≡ bits t
  pub nets : (t : ℕ) (y : Cycle) (net : ℕ) → slice_get run t ≡ Some y → Contains drivers net → shows drivers y net ≡ v t net

-- there is exactly one run of the design of so many cycles that shows the behaviour
pub record IsShownByOneRun (d : Design) (drivers : List ℕ) (v : ℕ → ℕ → Bool) (bits : ℕ → List Bool) (cycles : ℕ) : Type 0 where
  pub run : List Cycle
  pub from_reset : IsRun d run
  pub long : length run ≡ cycles
  pub shown : ShowsBehaviour drivers v bits run
  pub only : (other : List Cycle) → IsRun d other → length other ≡ cycles → ShowsBehaviour drivers v bits other → other ≡ run
