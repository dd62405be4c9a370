use Rattle.std.proofs.Common.{◌≡◌, ◌+◌, ◌*◌, [], take}
use Rattle.sat_solver.specs.Watches.{AreWatches}
use Rattle.sat_solver.proofs.engines.queue_of.Given as goal

-- the clauses so far are watched
abbrev pub invariant-loop-place : goal.invariant-loop-place
invariant-loop-place l = record {
  watches : AreWatches (take l.place l.clauses) l.queue.watches.literals;
  limit : l.queue.watches.limit ≡ 2 * l.vars + 2;
  waiting : l.queue.watches.waiting ≡ [];
  done : l.queue.done ≡ 0;
  looked : l.queue.looked ≡ 0;
}
