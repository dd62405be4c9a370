-- The literals of a whole monitor: of a cycle, of what latches take next, and of what is to stay 0.
use Rattle.std.specs.Prelude.{◌≡◌, ℕ, ◌-◌, Bool, true, false, List, ◌++◌, map, length, replicate}
use Rattle.net_model.specs.declared.netlist.Design.{Design}
use Rattle.net_model.specs.declared.cycles.Cycle.{Cycle}
use Rattle.net_model.specs.declared.claims.Claim.{Claim}
use Rattle.and_graphs.specs.declared.graphs.AndGraph.{AndGraph}
use Rattle.and_graphs.specs.declared.aigs.Latch.{Latch}
use Rattle.and_graphs.specs.declared.aigs.Aig.{Aig}
use Rattle.claim_monitor.specs.Fronts.{sizes_of, front_count, latch_count, AreFreeBits}
use Rattle.claim_monitor.specs.Shown.{AreIn, AreCycleLiterals, shown_cycle, shown_row}
use Rattle.claim_monitor.specs.Tells.{IsNextFront}
use Rattle.claim_monitor.specs.Judgings.{BadLiteral}
use Rattle.claim_monitor.specs.declared.sizes.Sizes.{Sizes}
use Rattle.claim_monitor.specs.declared.cycle_literals.Literals.{Literals}

-- a literal for what each latch takes next: with the bits of the next inputs before them, they are the bits of the next front
pub record AreNextLiterals (g : AndGraph) (d : Design) (claim : Claim) (s : Sizes) (ls : Literals) (nexts : List ℕ) : Type 0 where
  pub count : length nexts ≡ latch_count s
  pub in_ : AreIn g nexts
  pub takes : (x ins : List Bool) (next : Cycle) → length x ≡ g.front → length ins ≡ s.inputs
      → AreFreeBits d next (ins ++ shown_row g x nexts)
      → IsNextFront d claim s x (shown_cycle g x ls) next (ins ++ shown_row g x nexts)

-- the literals of a monitor: those of a cycle, a row of what latches take next, and the bad one
pub record IsMonitor (g : AndGraph) (d : Design) (claim : Claim) (ls : Literals) (row : List ℕ) (l : ℕ) : Type 0 where
  pub front : g.front ≡ front_count (sizes_of d claim)
  pub literals : AreCycleLiterals g d (sizes_of d claim) ls
  pub nexts : AreNextLiterals g d claim (sizes_of d claim) ls row
  pub bad : BadLiteral g d claim ls l

-- the graph with latches that is made of them
pub record IsAigOf (g : AndGraph) (d : Design) (claim : Claim) (row : List ℕ) (l : ℕ) (a : Aig) : Type 0 where
  pub inputs : a.inputs ≡ (sizes_of d claim).inputs
  pub next : map (λ (x : Latch). x.next) a.latches ≡ row
  pub is_any : map (λ (x : Latch). x.is_any) a.latches
      ≡ replicate (length d.regs) true ++ replicate (latch_count (sizes_of d claim) - length d.regs) false
  pub bad : a.bad ≡ l
  pub lines : a.lines ≡ g.lines
