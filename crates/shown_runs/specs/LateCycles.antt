-- A cycle in which the start of a claim comes late, walked back from the end.
use Rattle.std.specs.Prelude.{◌≡◌, ℕ, ◌≤◌, ◌<◌, List, ◌∷◌, length, drop, reverse, All, slice_index}
use Rattle.net_model.specs.Netlist.{IsSound}
use Rattle.net_model.specs.Fits.{Fits}
use Rattle.net_model.specs.Cycles.{IsSettled}
use Rattle.net_model.specs.Paths.{GoesOn, Meets}
use Rattle.net_model.specs.declared.claims.PinRef.{PinRef}
use Rattle.net_model.specs.declared.claims.PinRef.TheVariants.{Net}
use Rattle.shown_runs.specs.Carried.{IsLate, nets_on}
use Rattle.shown_runs.specs.LateLayers.{AreLayersOf}
use Rattle.shown_runs.specs.Sources.{pin_of}
use Rattle.shown_runs.specs.declared.sources.Source.{Source}
use Rattle.shown_runs.specs.declared.sources.Reader.{Reader}
use Rattle.shown_runs.specs.declared.late_cycles.LateCycle.{LateCycle}

-- a settled cycle of a sound design and a claim that fits it; the layers are those of the cycle with this stale bit
pub record IsLateCycle (l : LateCycle) : Type 0 where
  pub sound : IsSound l.design.now
  pub fits : Fits l.design.now l.claim.now
  pub settled : IsSettled l.design.now l.cycle.now
  pub layers : AreLayersOf l.design.now l.claim.now l.cycle.now l.stale l.layers

-- a net that is late in a late cycle
abbrev pub IsLateNet : LateCycle → ℕ → Type 0
IsLateNet l net = IsLate l.design.now l.claim.now l.cycle.now l.stale net

-- the source of what a pin reads in a layer: its net is late, and a path that meets at the pin what is due in the layer
-- meets from the net on what is due in the source's layer
pub record IsSourceOf (l : LateCycle) (layer : ℕ) (pin : PinRef) (net : ℕ) (source : Source) : Type 0 where
  pub of_net : source.net ≡ net
  pub below : source.layer ≤ layer
  pub late : IsLateNet l net
  pub meets : (path : List PinRef) → Meets (drop layer l.claim.now.through) (pin ∷ path)
      → Meets (drop source.layer l.claim.now.through) (Net net ∷ pin ∷ path)

-- the source of what one of these pins reads in a layer
pub record IsSourceAt (l : LateCycle) (layer : ℕ) (reader : Reader) (ins : List ℕ) (source : Source) : Type 0 where
  pub place : ℕ
  pub within : place < length ins
  pub of_pin : IsSourceOf l layer (pin_of reader place) (slice_index ins place) source

-- late nets, listed from the end on, of a path that goes on from the source to the end, and meets what is due in its layer
pub record IsRest (l : LateCycle) (source : Source) (nets : List ℕ) : Type 0 where
  pub path : List PinRef
  pub goes : GoesOn l.design.now l.claim.now.end (Net source.net) path
  pub meets : Meets (drop source.layer l.claim.now.through) (Net source.net ∷ path)
  pub nets_of : nets_on (Net source.net ∷ path) ≡ reverse nets
  pub late : All (IsLateNet l) nets
  pub in_range : source.layer ≤ length l.claim.now.through
