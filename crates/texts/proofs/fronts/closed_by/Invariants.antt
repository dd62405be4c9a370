use Rattle.std.proofs.Common.{◌≡◌, drop}
use Rattle.texts.specs.Fronts.{closed_by, closed_from}
use Rattle.texts.proofs.fronts.closed_by.Given as goal

abbrev pub invariant-loop-i : goal.invariant-loop-i
invariant-loop-i l = closed_by l.a l.b l.text ≡ closed_from l.a l.b l.i (drop l.i l.text)
