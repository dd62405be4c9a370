use Rattle.std.proofs.Common.{◌≡◌, drop, length}
use Rattle.mend_groups.specs.Groups.{have_ends}
use Rattle.mend_groups.proofs.groups.have_ends.Given as goal

abbrev pub invariant-loop-k : goal.invariant-loop-k
invariant-loop-k l = record {
  long : length l.first ≡ length l.second;
  left : have_ends l.first l.second ≡ have_ends (drop l.k l.first) (drop l.k l.second);
}
