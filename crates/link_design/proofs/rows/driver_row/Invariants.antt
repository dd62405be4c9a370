use Rattle.link_design.specs.Rows.{IsRowTo}
use Rattle.link_design.proofs.rows.driver_row.Given as goal

abbrev pub invariant-loop-place : goal.invariant-loop-place
invariant-loop-place l = IsRowTo l.drivers l.nets l.place l.row
