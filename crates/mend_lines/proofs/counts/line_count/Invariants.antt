use Rattle.std.proofs.Common.{◌≡◌, ◌*◌, ◌≤◌, take}
use Rattle.mend_lines.specs.Lines.{line_count}
use Rattle.mend_lines.proofs.counts.line_count.Given as goal

abbrev pub invariant-loop-group : goal.invariant-loop-group
invariant-loop-group l = record {
  count : l.count ≡ line_count (take l.group-index l.group-items);
  few : l.count ≤ 3 * l.group-index;
}
