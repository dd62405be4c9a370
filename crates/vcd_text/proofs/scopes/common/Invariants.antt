use Rattle.std.proofs.Common.{◌≡◌, ◌≤◌, ◌+◌, ◌-◌, length, drop}
use Rattle.vcd_text.specs.Scopes as scopes
use Rattle.vcd_text.proofs.scopes.common.Given as goal

abbrev pub invariant-loop-count : goal.invariant-loop-count
invariant-loop-count l = record {
  within_from : l.count ≤ length l.from;
  within_to : l.count ≤ length l.to;
  is : scopes.common l.from l.to ≡ l.count + scopes.common (drop l.count l.from) (drop l.count l.to);
}

abbrev pub decreases-loop-count : goal.decreases-loop-count
decreases-loop-count l = length l.from - l.count
