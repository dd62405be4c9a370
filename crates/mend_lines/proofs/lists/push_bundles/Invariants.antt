use Rattle.std.proofs.Common.{◌≡◌, ◌++◌, ◌==◌, ◌-◌, ◌≤◌, length, drop}
use Rattle.mend_lines.specs.Lines.{bundled, several_text}
use Rattle.mend_lines.proofs.Joined.{rest_text}
use Rattle.mend_lines.proofs.lists.push_bundles.Given as goal

abbrev pub invariant-loop-from : goal.invariant-loop-from
invariant-loop-from l = record {
  within : l.from ≤ length l.objects;
  made : l.initial.text.items ++ several_text (bundled l.objects) ≡ l.text.items ++ rest_text (l.from == 0) (bundled (drop l.from l.objects));
}

abbrev pub decreases-loop-from : goal.decreases-loop-from
decreases-loop-from l = length l.objects - l.from
