use Rattle.std.proofs.Common.{◌≡◌, ◌+◌, ◌-◌, ◌<◌, ◌≤◌, length, drop}
use Rattle.std.specs.Prelude.{Some, slice_get}
use Rattle.script_types.specs.declared.objects.Object.{Object}
use Rattle.mend_lines.proofs.Bundling.{run_after}
use Rattle.mend_lines.proofs.bundles.bundle_end.Given as goal

abbrev pub invariant-loop-place : goal.invariant-loop-place
invariant-loop-place l = record {
  more : l.from < l.place;
  within : l.place ≤ length l.objects;
  run : (first last : Object) → slice_get l.objects l.from ≡ Some first → slice_get l.objects (l.place - 1) ≡ Some last
      → run_after first (drop (l.from + 1) l.objects) + (l.from + 1) ≡ l.place + run_after last (drop l.place l.objects);
}
