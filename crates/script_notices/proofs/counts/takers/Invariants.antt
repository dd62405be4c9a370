use Rattle.std.proofs.Common.{◌≡◌, ◌≤◌, take}
use Rattle.script_notices.specs.Notices.{takers}
use Rattle.script_notices.proofs.counts.takers.Given as goal

abbrev pub invariant-loop-command : goal.invariant-loop-command
invariant-loop-command l = record {
  few : l.count ≤ l.command-index;
  is : l.count ≡ takers (take l.command-index l.commands);
}
