use Rattle.std.proofs.Common.{◌≡◌, ◌++◌, take, map}
use Rattle.sdc_settings.specs.Settings.{given}
use Rattle.sdc_settings.proofs.cases.add_given.Given as goal

abbrev pub invariant-loop-k : goal.invariant-loop-k
invariant-loop-k l = l.givens ≡ l.fn.givens ++ map (given l.line l.value) (take l.k l.places)
