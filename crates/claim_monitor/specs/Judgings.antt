-- Literals that tell whether a run is caught.
use Rattle.std.specs.Prelude.{◌≡◌, ◌↔◌, ℕ, true, List, Bool, length}
use Rattle.net_model.specs.declared.netlist.Design.{Design}
use Rattle.net_model.specs.declared.claims.Claim.{Claim}
use Rattle.and_graphs.specs.Graphs.{IsIn, bit_of}
use Rattle.and_graphs.specs.declared.graphs.AndGraph.{AndGraph}
use Rattle.claim_monitor.specs.Fronts.{sizes_of, DiffersFlipped}
use Rattle.claim_monitor.specs.Shown.{shown_cycle}
use Rattle.claim_monitor.specs.Tells.{TellsLate, IsCaughtNow}
use Rattle.claim_monitor.specs.declared.cycle_literals.Literals.{Literals}

-- the literal tells whether the late capture differs, where it counts
pub record LateLiteral (g : AndGraph) (d : Design) (claim : Claim) (ls : Literals) (l : ℕ) : Type 0 where
  pub here : IsIn g l
  pub tells : (x : List Bool) → length x ≡ g.front → TellsLate d claim (shown_cycle g x ls) (bit_of g x l)

-- for a claim of the early side the literal is 1 exactly where the late capture with the start flipped differs
pub record EarlyLiteral (g : AndGraph) (d : Design) (claim : Claim) (ls : Literals) (l : ℕ) : Type 0 where
  pub here : IsIn g l
  pub tells : claim.early ≡ true → (x : List Bool) → length x ≡ g.front → ((bit_of g x l ≡ true) ↔ DiffersFlipped d claim (shown_cycle g x ls))

-- the literal is 1 exactly where the bits in front and the cycle tell that the run is caught
pub record BadLiteral (g : AndGraph) (d : Design) (claim : Claim) (ls : Literals) (l : ℕ) : Type 0 where
  pub here : IsIn g l
  pub tells : (x : List Bool) → length x ≡ g.front → ((bit_of g x l ≡ true) ↔ IsCaughtNow d (sizes_of d claim) claim x (shown_cycle g x ls))
