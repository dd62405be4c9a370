-- The clauses that hold in the drawn runs.
use Rattle.std.specs.Prelude.{List, [], ◌∷◌}
use Rattle.net_model.specs.declared.netlist.Design.{Design}
use Rattle.net_model.specs.declared.invariants.InvClause.{InvClause}
use Rattle.drawn_runs.specs.Drawn.{HoldsDrawn, FailsDrawn}

-- of the first list those that stay are the second, in their order; the others go
pub data IsSifted (Stays Goes : InvClause → Type 0) : List InvClause → List InvClause → Type 0 where
  No_more : IsSifted Stays Goes [] []
  Is_left : (clause : InvClause) (clauses left : List InvClause) → Stays clause → IsSifted Stays Goes clauses left
      → IsSifted Stays Goes (clause ∷ clauses) (clause ∷ left)
  Is_out : (clause : InvClause) (clauses left : List InvClause) → Goes clause → IsSifted Stays Goes clauses left
      → IsSifted Stays Goes (clause ∷ clauses) left

-- the clauses that hold in every live cycle of all drawn runs are left; each other one fails in such a cycle
abbrev pub AreSurvivors : Design → List InvClause → List InvClause → Type 0
AreSurvivors d = IsSifted (HoldsDrawn d) (FailsDrawn d)
