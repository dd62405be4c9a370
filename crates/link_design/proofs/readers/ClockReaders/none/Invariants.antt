use Rattle.std.proofs.Common.{◌≡◌, [], replicate}
use Rattle.link_design.proofs.readers.ClockReaders.none.Given as goal

abbrev pub invariant-loop : goal.invariant-loop
invariant-loop l = l.rows.items ≡ replicate l.counter []
