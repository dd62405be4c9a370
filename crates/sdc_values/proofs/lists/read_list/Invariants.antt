use Rattle.std.proofs.Common.{◌≡◌, ◌<◌, ℕ, length}
use Rattle.sdcv_base.specs.Cursors.{rest}
use Rattle.sdc_values.specs.Lists.{list_of, items_from}
use Rattle.sdc_values.proofs.lists.read_list.Given as goal

abbrev pub invariant-items : goal.invariant-items
invariant-items l = record {
  told : (m : ℕ) × (length (rest l.c) < m)
      × (list_of l.class l.hier l.text ≡ items_from l.class l.hier m l.braces.items l.found (rest l.c));
}

abbrev pub decreases-items : goal.decreases-items
decreases-items l = length (rest l.c)
