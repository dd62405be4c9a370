use Rattle.watch_lists.proofs.Listing.{IsWatching-new}
use Rattle.watch_lists.proofs.watches.Watches.new.Goals as goal

pub invariant_of-result : goal.invariant_of-result
invariant_of-result c = rw (c.in_ok-lists.ensures, c.new-2.ensures.items) (IsWatching-new c.args.limit c.requires)
