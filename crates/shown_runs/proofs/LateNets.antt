-- Nets that are late in the layers of a cycle.
use Rattle.std.proofs.Common.{arith, ℕ, ◌<◌, ◌≤◌, Bool, length, subst, sym}
use Rattle.net_model.specs.declared.netlist.Design.{Design}
use Rattle.net_model.specs.declared.cycles.Cycle.{Cycle}
use Rattle.net_model.specs.declared.claims.Claim.{Claim}
use Rattle.shown_runs.specs.Carried.{IsLate, IsLateBy}
use Rattle.shown_runs.specs.LateLayers.{AreLayersOf, HasLayer, IsLateIn}
use Rattle.shown_runs.specs.LateCycles.{IsLateCycle, IsLateNet}
use Rattle.shown_runs.specs.declared.late_cycles.LateCycle.{LateCycle}
use Rattle.shown_runs.specs.declared.late_layers.LateLayers.{LateLayers}
use Rattle.shown_runs.specs.declared.late_layers.LateLayers.TheVariants.{Bits, Terns}

late_by : (d : Design) (claim : Claim) (c : Cycle) (stale : Bool) (layers : LateLayers) (layer net : ℕ) → AreLayersOf d claim c stale layers
    → layer ≤ length claim.through → IsLateIn layers c layer net → IsLate d claim c stale net
late_by d claim c stale (Bits rows) layer net (plain, of_cycle) low is =
    subst (λ (h : Bool). IsLateBy h d claim c stale net) (sym plain)
    (record { rows = rows; layers = of_cycle; layer = layer; in_range = low; differs = is })
late_by d claim c stale (Terns rows) layer net (hazard, of_cycle) low is =
    subst (λ (h : Bool). IsLateBy h d claim c stale net) (sym hazard)
    (record { rows = rows; layers = of_cycle; layer = layer; in_range = low; unknown = is })

-- a net that is late in one of the layers is late
pub late_in : (l : LateCycle) (layer net : ℕ) → IsLateCycle l → layer ≤ length l.claim.now.through → IsLateIn l.layers l.cycle.now layer net
    → IsLateNet l net
late_in l layer net is low late = late_by l.design.now l.claim.now l.cycle.now l.stale l.layers layer net is.layers low late

layer_of : (d : Design) (claim : Claim) (c : Cycle) (stale : Bool) (layers : LateLayers) (layer net : ℕ) → AreLayersOf d claim c stale layers
    → layer ≤ length claim.through → net < d.nets → HasLayer layers layer net
layer_of d claim c stale (Bits rows) layer net (plain, of_cycle) low here =
    (omega (arith, of_cycle.count), omega (arith, of_cycle.lens layer low))
layer_of d claim c stale (Terns rows) layer net (hazard, of_cycle) low here =
    (omega (arith, of_cycle.layers.count), omega (arith, of_cycle.layers.lens layer low))

-- there is a row for each layer, with a value for each net
pub has_layer : (l : LateCycle) (layer net : ℕ) → IsLateCycle l → layer ≤ length l.claim.now.through → net < l.design.now.nets → HasLayer l.layers layer net
has_layer l layer net is low here = layer_of l.design.now l.claim.now l.cycle.now l.stale l.layers layer net is.layers low here

pub has_net : (l : LateCycle) (net : ℕ) → IsLateCycle l → net < l.design.now.nets → net < length l.cycle.now.nets
has_net l net is here = omega (arith, is.settled.shape.nets)
