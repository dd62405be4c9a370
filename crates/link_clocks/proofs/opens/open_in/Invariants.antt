use Rattle.link_clocks.specs.Marks.{AreClosed}
use Rattle.link_clocks.proofs.opens.open_in.Given as goal

abbrev pub invariant-loop-place : goal.invariant-loop-place
invariant-loop-place l = AreClosed l.marks l.parts l.from l.place
