use Rattle.std.proofs.Common.{◌≡◌, ◌≤◌, ◌++◌, ℕ, length}
use Rattle.sdcv_base.specs.Cursors.{rest}
use Rattle.lib_words.specs.Values.{spaced}
use Rattle.lib_words.proofs.values.spaced.Given as goal

abbrev pub invariant-pieces : goal.invariant-pieces
invariant-pieces l = (m : ℕ) × (length (rest l.c) ≤ m) × (spaced (length l.text) l.text ≡ l.found.items ++ spaced m (rest l.c))

abbrev pub decreases-pieces : goal.decreases-pieces
decreases-pieces l = length (rest l.c)
