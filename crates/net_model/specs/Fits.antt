-- Claims and clauses whose places are those of a design.
use Rattle.std.specs.Prelude.{◌≡◌, ℕ, ◌<◌, ◌≤◌, Bool, true, false, length, All, Some, slice_get}
use Rattle.net_model.specs.declared.netlist.Design.{Design}
use Rattle.net_model.specs.declared.netlist.Gate.{Gate}
use Rattle.net_model.specs.declared.netlist.Reg.{Reg}
use Rattle.net_model.specs.declared.claims.Claim.{Claim}
use Rattle.net_model.specs.declared.invariants.StateLit.{StateLit}
use Rattle.net_model.specs.declared.invariants.InvClause.{InvClause}
use Rattle.sdcv_base.specs.declared.kinds.Kind.{Kind}
use Rattle.sdcv_base.specs.declared.kinds.Kind.TheVariants.{False, Multi}
use Rattle.net_model.specs.declared.claims.Start.{Start}
use Rattle.net_model.specs.declared.claims.Start.TheVariants.{Reg as RegStart, Input as InputStart}
use Rattle.net_model.specs.declared.claims.End.{End}
use Rattle.net_model.specs.declared.claims.End.TheVariants.{Reg as RegEnd, Output as OutputEnd}
use Rattle.net_model.specs.declared.claims.PinRef.{PinRef}
use Rattle.net_model.specs.declared.claims.PinRef.TheVariants.{Net, GateIn, RegIn, OutPort}

-- the start is a register or an input of the design
abbrev pub IsStartIn : Design → Start → Type 0
IsStartIn d (RegStart r) = r < length d.regs
IsStartIn d (InputStart i) = i < length d.inputs

-- the end is a register or an output of the design
abbrev pub IsEndIn : Design → End → Type 0
IsEndIn d (RegEnd r) = r < length d.regs
IsEndIn d (OutputEnd o) = o < length d.outputs

-- the pin is one of the design; a register's own bit is no pin
abbrev pub IsPinIn : Design → PinRef → Type 0
IsPinIn d (Net n) = n < d.nets
IsPinIn d (GateIn k i) = (g : Gate) × (slice_get d.gates k ≡ Some g) × (i < length g.ins)
IsPinIn d (RegIn r i) = (reg : Reg) × (slice_get d.regs r ≡ Some reg) × (i < length reg.ins)
IsPinIn d (OutPort o) = o < length d.outputs

-- a multiplier is from 1 to 16
abbrev pub IsKindFit : Kind → Type 0
IsKindFit False = Unit {0}
IsKindFit (Multi k) = (1 ≤ k) × (k ≤ 16)

-- a false path is judged over at most eight cycles of lag, a multicycle path over none
abbrev pub IsLagFit : Kind → ℕ → Type 0
IsLagFit False lag = lag ≤ 8
IsLagFit (Multi k) lag = lag ≡ 0

-- only a false path has an early side, and that has no lag
abbrev pub IsSideFit : Bool → Kind → ℕ → Type 0
IsSideFit false kind lag = Unit {0}
IsSideFit true False lag = lag ≡ 0
IsSideFit true (Multi k) lag = ⊥

-- all places of the claim are in range, its multiplier, lag and side are fit, and it has at most four through sets
pub record Fits (d : Design) (claim : Claim) : Type 0 where
  pub kind : IsKindFit claim.kind
  pub lag : IsLagFit claim.kind claim.lag
  pub side : IsSideFit claim.early claim.kind claim.lag
  pub start : IsStartIn d claim.start
  pub end_ : IsEndIn d claim.end
  pub pins : All (All (IsPinIn d)) claim.through
  pub few : length claim.through ≤ 4

-- each literal of the clause is about a register of the design
abbrev pub NamesRegs : Design → InvClause → Type 0
NamesRegs d clause = All (λ (l : StateLit). l.reg < length d.regs) clause.lits
