-- When a graph with latches watches a claim.
use Rattle.std.specs.Prelude.{◌≡◌, ◌↔◌, ℕ, ◌+◌, ◌-◌, ◌<◌, Bool, true, false, List, ◌++◌, map, length, replicate, Some, slice_get}
use Rattle.net_model.specs.Cycles.{IsRun}
use Rattle.net_model.specs.Held.{free_below}
use Rattle.net_model.specs.Judge.{IsViolatedAt}
use Rattle.net_model.specs.declared.netlist.Design.{Design}
use Rattle.net_model.specs.declared.cycles.Cycle.{Cycle}
use Rattle.net_model.specs.declared.claims.Claim.{Claim}
use Rattle.and_graphs.specs.Runs.{latches_at, bad_at}
use Rattle.and_graphs.specs.Texts.{HasForm}
use Rattle.and_graphs.specs.declared.aigs.Latch.{Latch}
use Rattle.and_graphs.specs.declared.aigs.Aig.{Aig}
use Rattle.claim_monitor.specs.Fronts.{sizes_of, latch_count, AreFreeBits}

-- the claim is violated by a toggle, and the bad cycle is this one
abbrev pub IsCaughtAt : Design → Claim → List Cycle → ℕ → Type 0
IsCaughtAt d claim run c = (t : ℕ) × (v : IsViolatedAt d.reset_len d claim run t) × (t + v.r ≡ c)

-- these first bits of the registers and these bits of the free inputs at each step are those of a run
pub record AreOfRun (d : Design) (run : List Cycle) (any : List Bool) (ins : ℕ → List Bool) : Type 0 where
  pub first : (c : Cycle) → slice_get run 0 ≡ Some c → any ≡ c.bits
  pub count : (t : ℕ) → length (ins t) ≡ free_below d (length d.inputs)
  pub inputs : (t : ℕ) (c : Cycle) → slice_get run t ≡ Some c → AreFreeBits d c (ins t)

-- its inputs are the free inputs, its first latches the registers, whose first bits are any and which have the run's bits in each
-- step, and the bad literal is 1 in exactly the steps in which the run is caught
pub record Watches (d : Design) (claim : Claim) (a : Aig) : Type 0 where
  pub form : HasForm a
  pub inputs : a.inputs ≡ (sizes_of d claim).inputs
  pub latches : map (λ (x : Latch). x.is_any) a.latches ≡ replicate (length d.regs) true ++ replicate (latch_count (sizes_of d claim) - length d.regs) false
  pub which : (run : List Cycle) (any : List Bool) (ins : ℕ → List Bool) (t r : ℕ) (c : Cycle) → IsRun d run → AreOfRun d run any ins
      → slice_get run t ≡ Some c → r < length d.regs → slice_get (latches_at a any ins t) r ≡ slice_get c.bits r
  pub bad : (run : List Cycle) (any : List Bool) (ins : ℕ → List Bool) (t : ℕ) → IsRun d run → AreOfRun d run any ins → t < length run
      → (bad_at a any ins t ≡ true) ↔ IsCaughtAt d claim run t
