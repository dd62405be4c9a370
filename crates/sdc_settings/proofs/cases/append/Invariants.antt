use Rattle.std.proofs.Common.{◌≡◌, ◌++◌, take}
use Rattle.sdc_settings.proofs.cases.append.Given as goal

abbrev pub invariant-loop-k : goal.invariant-loop-k
invariant-loop-k l = l.places ≡ l.fn.places ++ take l.k l.more
