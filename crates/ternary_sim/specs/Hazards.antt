-- A claim with and without hazards, and captures that no glitch can change.
use Rattle.std.specs.Prelude.{◌≡◌, ℕ, Bool, true, false, List}
use Rattle.net_model.specs.Cycles.{capture, IsLinked}
use Rattle.net_model.specs.Layers.{IsLateCapture}
use Rattle.net_model.specs.Judge.{IsViolatedAt}
use Rattle.net_model.specs.declared.netlist.Design.{Design}
use Rattle.net_model.specs.declared.cycles.Cycle.{Cycle}
use Rattle.net_model.specs.declared.claims.Claim.{Claim}

-- the claim where hazards don't count
abbrev pub plain_of : Claim → Claim
plain_of claim = record claim { hazard = false }

-- the claim where hazards count
abbrev pub hazard_of : Claim → Claim
hazard_of claim = record claim { hazard = true }

-- what violates the claim where hazards don't count violates it at the same toggle where they do
abbrev pub StaysViolated : Design → Claim → Type 0
StaysViolated d claim =
    (live : ℕ) (run : List Cycle) (t : ℕ) → IsLinked d run → IsViolatedAt live d (plain_of claim) run t → IsViolatedAt live d (hazard_of claim) run t

-- the end captures this bit, and so it does where the start comes late, whatever bit the start showed
pub record IsSteady (d : Design) (claim : Claim) (c : Cycle) (b : Bool) : Type 0 where
  pub plain : capture d claim.end c ≡ b
  pub late : (stale late : Bool) → IsLateCapture d claim c stale late → late ≡ b
