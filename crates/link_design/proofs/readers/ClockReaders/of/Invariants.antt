use Rattle.link_design.specs.Readers.{AreReadersTo}
use Rattle.link_design.proofs.readers.ClockReaders.of.Given as goal

abbrev pub invariant-loop-place : goal.invariant-loop-place
invariant-loop-place l = AreReadersTo l.circuit l.place l.readers.rows.items
