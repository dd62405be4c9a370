use Rattle.drawn_runs.specs.Stretches.{All_left}
use Rattle.invariants.proofs.sets.tried.Goals as goal

pub returns-then-not-many : goal.returns-then-not-many
returns-then-not-many c = (c.in_ok-left.left, c.in_ok-left.ensures, All_left)

pub returns : goal.returns
returns c = (c.in_ok-left.left, c.in_ok-left.ensures, c.in_ok-fewer.ensures)
