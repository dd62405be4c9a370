-- The layers of a cycle in which the start comes late, of bits or of values that may be unknown.
use Rattle.std.specs.Prelude.{◌≡◌, ◌≢◌, ℕ, ◌<◌, ◌+◌, Bool, true, false, List, length, All}
use Rattle.net_model.specs.Form.{value}
use Rattle.net_model.specs.Cycles.{bit_at, shown}
use Rattle.net_model.specs.Layers.{row_at, net_at, AreLayers}
use Rattle.net_model.specs.Ternary.{AreTernaryLayers}
use Rattle.net_model.specs.declared.netlist.Design.{Design}
use Rattle.net_model.specs.declared.cycles.Cycle.{Cycle}
use Rattle.net_model.specs.declared.claims.Claim.{Claim}
use Rattle.net_model.specs.declared.terns.Tern.TheVariants.{Zero, Unknown}
use Rattle.shown_runs.specs.declared.late_layers.LateLayers.{LateLayers}
use Rattle.shown_runs.specs.declared.late_layers.LateLayers.TheVariants.{Bits, Terns}

-- a row for the first layer and one for each through set, with a value for each net
pub record AreRowsFor {V : Type 0} (d : Design) (claim : Claim) (rows : List (List V)) : Type 0 where
  pub count : length rows ≡ length claim.through + 1
  pub lens : All (λ (row : List V). length row ≡ d.nets) rows

-- the layers of the cycle: of bits where hazards don't count, with the stale bit in the first, and else of unknown values
abbrev pub AreLayersOf : Design → Claim → Cycle → Bool → LateLayers → Type 0
AreLayersOf d claim c stale (Bits rows) =
    (claim.hazard ≡ false) × AreLayers value false d claim.start claim.through (λ o. shown o stale) c.nets rows
AreLayersOf d claim c stale (Terns rows) =
    (claim.hazard ≡ true) × AreTernaryLayers d claim.start claim.through c.nets rows

-- there is a row of this number, and it has a value for the net
abbrev pub HasLayer : LateLayers → ℕ → ℕ → Type 0
HasLayer (Bits rows) layer net = (layer < length rows) × (net < length (row_at rows layer))
HasLayer (Terns rows) layer net = (layer < length rows) × (net < length (row_at rows layer))

-- the net is late in this layer
abbrev pub IsLateIn : LateLayers → Cycle → ℕ → ℕ → Type 0
IsLateIn (Bits rows) c layer net = net_at false rows layer net ≢ bit_at c.nets net
IsLateIn (Terns rows) c layer net = net_at Zero rows layer net ≡ Unknown
