use Rattle.std.proofs.Common.{◌≡◌, length, drop}
use Rattle.script_notices.specs.Companions.{are_objects}
use Rattle.script_notices.proofs.objects.are_objects.Given as goal

abbrev pub invariant-loop-place : goal.invariant-loop-place
invariant-loop-place l = record {
  long : length l.first ≡ length l.second;
  same : are_objects l.first l.second ≡ are_objects (drop l.place l.first) (drop l.place l.second);
}
