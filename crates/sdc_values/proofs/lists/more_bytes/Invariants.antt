use Rattle.std.proofs.Common.{◌≡◌, ◌≤◌, ℕ, length}
use Rattle.sdcv_base.specs.Cursors.{rest}
use Rattle.sdc_values.specs.Lists.{element_from}
use Rattle.sdc_values.proofs.lists.more_bytes.Given as goal

abbrev pub invariant-bytes : goal.invariant-bytes
invariant-bytes l = record {
  within : length (rest l.c) ≤ length (rest l.fn.c);
  told : (m : ℕ) × (length (rest l.c) ≤ m)
      × (element_from (length (rest l.fn.c)) l.fn.braces.items l.fn.found.items (rest l.fn.c) ≡ element_from m l.braces.items l.found.items (rest l.c));
}

abbrev pub decreases-bytes : goal.decreases-bytes
decreases-bytes l = length (rest l.c)
