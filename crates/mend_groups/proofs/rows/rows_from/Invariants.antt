use Rattle.std.proofs.Common.{◌≡◌, ◌+◌, ◌-◌, ◌++◌}
use Rattle.mend_groups.specs.Rows as spec
use Rattle.mend_groups.proofs.rows.rows_from.Given as goal

abbrev pub invariant-loop-at : goal.invariant-loop-at
invariant-loop-at l =
    l.rows ++ spec.rows_from l.pairs.ports l.spelled l.pairs.selected.now l.pairs.verdicts.now l.at (l.place + l.count - l.at) ≡
    spec.rows_from l.pairs.ports l.spelled l.pairs.selected.now l.pairs.verdicts.now l.place l.count
