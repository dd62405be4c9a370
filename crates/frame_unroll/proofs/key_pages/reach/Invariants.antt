use Rattle.std.proofs.Common.{◌≡◌, ℕ, ◌+◌, ◌-◌, length, get_or}
use Rattle.frame_unroll.proofs.key_pages.reach.Given as goal

abbrev pub invariant-loop-pages : goal.invariant-loop-pages
invariant-loop-pages l = (i : ℕ) → get_or l.pages.items i 0 ≡ get_or l.initial.pages.items i 0

abbrev pub decreases-loop-pages : goal.decreases-loop-pages
decreases-loop-pages l = l.place + 1 - length l.pages.items
