use Rattle.std.proofs.Common.{map, take}
use Rattle.cnf_encode.specs.Placed.{ArePushed}
use Rattle.cnf_encode.proofs.point_rows.by_cycle.Given as goal

abbrev pub invariant-loop-before : goal.invariant-loop-before
invariant-loop-before l = ArePushed (take l.before l.frames) l.places l.cycles (map (λ row. row.items) l.rows.items)
