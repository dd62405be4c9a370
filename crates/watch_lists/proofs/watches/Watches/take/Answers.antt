use Rattle.std.proofs.Common.{set, ap}
use Rattle.watch_lists.specs.Chains.{list_at}
use Rattle.watch_lists.proofs.Listing.{taken_from}
use Rattle.watch_lists.proofs.watches.Watches.take.Goals as goal

pub invariant_of-self-2 : goal.invariant_of-self-2
invariant_of-self-2 c =
    let w = c.self.inside in
    let p = c.in_ok-watch.ensures in
    (taken_from w.lists.lists w.lists.nodes w.literals.items c.pop.new.self c.in_ok-watch.watch c.self.invariant p.0 p.1 p.2.0 p.2.1 p.2.2).watching

pub returns : goal.returns
returns c =
    let w = c.self.inside in
    let p = c.in_ok-watch.ensures in
    let t = taken_from w.lists.lists w.lists.nodes w.literals.items c.pop.new.self c.in_ok-watch.watch c.self.invariant p.0 p.1 p.2.0 p.2.1 p.2.2 in
    rw (← c.self.view_is) (
      t.here,
      t.on,
      t.gone,
      t.first,
      ap (λ n. record
          { limit = n; literals = set w.literals.items c.in_ok-watch.watch 0; waiting = list_at c.pop.new.self.lists 0 }) t.limit,
    )
