use Rattle.std.proofs.Common.{◌≡◌, ◌≤◌, take}
use Rattle.script_notices.specs.Notices.{skipped_count}
use Rattle.script_notices.proofs.counts.skipped_count.Given as goal

abbrev pub invariant-loop-command : goal.invariant-loop-command
invariant-loop-command l = record {
  few : l.count ≤ l.command-index;
  is : l.count ≡ skipped_count (take l.command-index l.commands) l.name;
}
