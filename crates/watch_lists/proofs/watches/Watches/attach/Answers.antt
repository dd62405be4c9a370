use Rattle.watch_lists.proofs.Listing.{IsWatching-attach}
use Rattle.watch_lists.proofs.watches.Watches.attach.Goals as goal

pub invariant_of-self : goal.invariant_of-self
invariant_of-self c =
    let w = c.self.inside in
    rw c.push.ensures
    (IsWatching-attach w.lists.lists w.lists.nodes w.literals.items c.args.watch c.args.literal c.self.invariant
    (rw (← c.self.view_is) at c.requires.watch) (rw (← c.self.view_is) at c.requires.free) c.requires.some (rw (← c.self.view_is) at c.requires.below))
