-- Paths of nets that carry a late value.
use Rattle.std.specs.Prelude.{◌≡◌, ◌≢◌, ℕ, ◌≤◌, Bool, true, false, List, [], ◌∷◌, length, All}
use Rattle.net_model.specs.Form.{value}
use Rattle.net_model.specs.Cycles.{bit_at, shown}
use Rattle.net_model.specs.Layers.{net_at, AreLayers}
use Rattle.net_model.specs.Ternary.{AreTernaryLayers}
use Rattle.net_model.specs.Paths.{IsPath, Meets}
use Rattle.net_model.specs.declared.netlist.Design.{Design}
use Rattle.net_model.specs.declared.cycles.Cycle.{Cycle}
use Rattle.net_model.specs.declared.claims.Claim.{Claim}
use Rattle.net_model.specs.declared.claims.PinRef.{PinRef}
use Rattle.net_model.specs.declared.claims.PinRef.TheVariants.{Net, GateIn, RegIn, OutPort}
use Rattle.net_model.specs.declared.terns.Tern.{Tern}
use Rattle.net_model.specs.declared.terns.Tern.TheVariants.{Zero, Unknown}

-- in a layer in whose first one the start shows the stale bit, the net differs from what it is in the cycle
pub record DiffersInLayer (d : Design) (claim : Claim) (c : Cycle) (stale : Bool) (net : ℕ) : Type 0 where
  pub rows : List (List Bool)
  pub layers : AreLayers value false d claim.start claim.through (λ o. shown o stale) c.nets rows
  pub layer : ℕ
  pub in_range : layer ≤ length claim.through
  pub differs : net_at false rows layer net ≢ bit_at c.nets net

-- in a layer in whose first one the start is unknown, the net is unknown too
pub record IsUnknownInLayer (d : Design) (claim : Claim) (c : Cycle) (net : ℕ) : Type 0 where
  pub rows : List (List Tern)
  pub layers : AreTernaryLayers d claim.start claim.through c.nets rows
  pub layer : ℕ
  pub in_range : layer ≤ length claim.through
  pub unknown : net_at Zero rows layer net ≡ Unknown

-- the net is late: it differs in a layer, or where hazards count it is unknown there
abbrev pub IsLateBy : Bool → Design → Claim → Cycle → Bool → ℕ → Type 0
IsLateBy false d claim c stale net = DiffersInLayer d claim c stale net
IsLateBy true d claim c stale net = IsUnknownInLayer d claim c net

abbrev pub IsLate : Design → Claim → Cycle → Bool → ℕ → Type 0
IsLate d claim c stale net = IsLateBy claim.hazard d claim c stale net

-- the nets of a path, in its order
abbrev pub nets_on : List PinRef → List ℕ
nets_on [] = []
nets_on (Net n ∷ path) = n ∷ nets_on path
nets_on (GateIn k i ∷ path) = nets_on path
nets_on (RegIn r i ∷ path) = nets_on path
nets_on (OutPort o ∷ path) = nets_on path

-- the nets of a path from the claim's start to its end that meets the through sets in their order; each of them is late
pub record IsCarried (d : Design) (claim : Claim) (c : Cycle) (stale : Bool) (nets : List ℕ) : Type 0 where
  pub path : List PinRef
  pub is_path : IsPath d claim.start claim.end path
  pub meets : Meets claim.through path
  pub nets_of : nets_on path ≡ nets
  pub late : All (IsLate d claim c stale) nets
