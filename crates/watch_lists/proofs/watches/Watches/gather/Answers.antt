use Rattle.watch_lists.proofs.Listing.{gathered_from}
use Rattle.watch_lists.proofs.watches.Watches.gather.Goals as goal

pub invariant_of-self : goal.invariant_of-self
invariant_of-self c =
    let w = c.self.inside in
    let g = gathered_from w.lists.lists w.lists.nodes w.literals.items c.args.literal c.self.invariant c.requires.some
    (rw (← c.self.view_is) at c.requires.below) (rw (← c.self.view_is) at c.requires.none) in
    rw c.move_all.ensures g.watching

pub returns-clause-on : goal.returns-clause-on
returns-clause-on c =
    let w = c.self.inside in
    let g = gathered_from w.lists.lists w.lists.nodes w.literals.items c.args.literal c.self.invariant c.requires.some
    (rw (← c.self.view_is) at c.requires.below) (rw (← c.self.view_is) at c.requires.none) in
    rw (← c.self.view_is, c.move_all.ensures) g.on

pub returns-clause-all : goal.returns-clause-all
returns-clause-all c =
    let w = c.self.inside in
    let g = gathered_from w.lists.lists w.lists.nodes w.literals.items c.args.literal c.self.invariant c.requires.some
    (rw (← c.self.view_is) at c.requires.below) (rw (← c.self.view_is) at c.requires.none) in
    rw (← c.self.view_is, c.move_all.ensures) g.all
