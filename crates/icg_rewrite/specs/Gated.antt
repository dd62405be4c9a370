-- Designs with clock gates: which numbers are in range.
use Rattle.std.specs.Prelude.{◌≡◌, ℕ, ◌<◌, ◌≤◌, length, All, Option, Some, None, slice_get}
use Rattle.net_model.specs.Form.{IsOver}
use Rattle.net_model.specs.Netlist.{IsSound, AllBelow}
use Rattle.net_model.specs.declared.netlist.Design.{Design}
use Rattle.icg_rewrite.specs.declared.clock_gates.ClockGate.{ClockGate}
use Rattle.icg_rewrite.specs.declared.clock_gates.Gated.{Gated}

-- no clock gate, or one of a number below this one
abbrev pub IsBelowIfAny : ℕ → Option ℕ → Type 0
IsBelowIfAny limit None = Unit {0}
IsBelowIfAny limit (Some k) = k < limit

-- clock gate k reads its own pins, at most five of them, and nets of the design, and stands below an earlier one or none
pub record IsGateOf (d : Design) (k : ℕ) (x : ClockGate) : Type 0 where
  pub func : IsOver (length x.ins) x.func
  pub ins : AllBelow d.nets x.ins
  pub few : length x.ins ≤ 5
  pub parent : IsBelowIfAny k x.parent

-- a sound design with clock gates, in which it is said of each register behind which of them it stands, if any
pub record AreGated (g : Gated) : Type 0 where
  pub sound : IsSound g.design
  pub gates : (k : ℕ) (x : ClockGate) → slice_get g.gates k ≡ Some x → IsGateOf g.design k x
  pub each : length g.of ≡ length g.design.regs
  pub behind : All (IsBelowIfAny (length g.gates)) g.of
