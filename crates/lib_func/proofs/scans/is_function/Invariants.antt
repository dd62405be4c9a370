use Rattle.std.proofs.Common.{◌≡◌, ◌≤◌, drop}
use Rattle.lib_func.specs.declared.scans.Spot.TheVariants.{Before}
use Rattle.lib_func.specs.Scans.{opened}
use Rattle.lib_func.proofs.Scanning.{scan}
use Rattle.lib_func.proofs.scans.is_function.Given as goal

abbrev pub invariant-loop-i : goal.invariant-loop-i
invariant-loop-i l = record {
  few : opened l.spot ≤ l.i;
  told : scan (Before 0) l.text ≡ scan l.spot (drop l.i l.text);
}
