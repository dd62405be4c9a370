-- The clauses about which queries are asked.
use Rattle.std.specs.Prelude.{ℕ, List}
use Rattle.net_model.specs.declared.netlist.Design.{Design}
use Rattle.net_model.specs.declared.invariants.InvClause.{InvClause}
use Rattle.drawn_runs.specs.Survivors.{AreSurvivors}
use Rattle.drawn_runs.specs.Stretches.{IsThinned}

-- the clauses about which queries are asked: of those that hold in the drawn runs, what is left after drawn stretches
abbrev pub AreTried : Design → ℕ → List InvClause → List InvClause → Type 0
AreTried d depth clauses left = (survivors : List InvClause) × AreSurvivors d clauses survivors × IsThinned d depth survivors left
