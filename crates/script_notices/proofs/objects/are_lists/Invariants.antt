use Rattle.std.proofs.Common.{◌≡◌, length, drop}
use Rattle.script_notices.specs.Companions.{are_lists}
use Rattle.script_notices.proofs.objects.are_lists.Given as goal

abbrev pub invariant-loop-place : goal.invariant-loop-place
invariant-loop-place l = record {
  long : length l.first ≡ length l.second;
  same : are_lists l.first l.second ≡ are_lists (drop l.place l.first) (drop l.place l.second);
}
