use Rattle.std.proofs.Common.{◌+◌, ◌*◌}
use Rattle.sdc_values.proofs.collections.+removals.Given as goal

abbrev pub decreases-collection_from : goal.decreases-collection_from
decreases-collection_from l = 3 * l.depth

abbrev pub decreases-first_of_two : goal.decreases-first_of_two
decreases-first_of_two l = 3 * l.depth + 2

abbrev pub decreases-word : goal.decreases-word
decreases-word l = 3 * l.depth + 1
