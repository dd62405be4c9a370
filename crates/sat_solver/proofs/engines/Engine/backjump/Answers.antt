use Rattle.std.proofs.Common.{arith, ◌≡◌, ◌<◌, ap, get_or, length}
use Rattle.std.proofs.lemmas.List.{get_or_read}
use Rattle.sat_solver.specs.declared.propagation.Queue.{Queue}
use Rattle.sat_solver.proofs.Queueing.{IsEngine-back}
use Rattle.sat_solver.proofs.engines.Engine.backjump.Goals as goal

pub index-requires : goal.index-requires
index-requires c = let e = c.self.invariant.0 in omega (
  arith,
  c.if-level-len.true,
  c.len.ensures,
  e.levels,
  c.self.inside.starts.ok.0,
  c.self.inside.walks.ok.0,
)

pub invariant_of-self : goal.invariant_of-self
invariant_of-self c =
    let e = c.self.inside in
    let starts = e.starts.items in
    let walks = e.walks.items in
    let below : c.args.level < length starts = omega (arith, c.if-level-len.true, c.len.ensures, e.starts.ok.0) in
    let from_is : c.index-from.result.now ≡ get_or starts c.args.level 0 = get_or_read starts c.args.level c.index-from.result.now below
    c.index-from.ensures 0 in
    let walk_is : c.index.result.now ≡ get_or walks c.args.level 0 = get_or_read walks c.args.level c.index.result.now
    (omega (arith, below, c.self.invariant.0.levels)) c.index.ensures 0 in
    let new : Queue = record { watches = e.queue.watches; done = c.index.result.now; looked = e.queue.looked; starts = e.queue.starts } in
    rw (c.truncate-then-level-len.ensures.items, c.truncate-then-level-len-2.ensures.items) (
      IsEngine-back e.clauses e.trail c.truncate.new.self starts walks e.queue new c.args.level c.index-from.result.now c.self.invariant.0 below from_is
          c.truncate.ensures.vars c.truncate.ensures.lits c.truncate.ensures.reasons
          (ap (λ n. record { watches = e.queue.watches; done = n; looked = e.queue.looked; starts = e.queue.starts }) walk_is),
      omega (arith, c.truncate.ensures.vars, c.truncate-then-level-len.ensures.capacity, c.self.invariant.1),
      omega (arith, c.truncate.ensures.vars, c.truncate-then-level-len-2.ensures.capacity, c.self.invariant.2),
      rw (c.truncate.ensures.vars, c.truncate.ensures.lits) c.release.ensures,
      omega (arith, c.truncate.ensures.vars, c.self.invariant.4),
    )
