use Rattle.link_cuts.proofs.Firsting.{AreFirstTo}
use Rattle.link_cuts.proofs.firsts.first_row.Given as goal

abbrev pub invariant-loop-place : goal.invariant-loop-place
invariant-loop-place l = AreFirstTo l.nets l.list l.place l.row
