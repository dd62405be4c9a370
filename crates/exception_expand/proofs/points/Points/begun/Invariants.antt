use Rattle.std.proofs.Common.{◌≡◌, take}
use Rattle.std.specs.Prelude.{filter}
use Rattle.exception_expand.specs.Choices.{has_begun}
use Rattle.exception_expand.proofs.points.Points.begun.Given as goal

abbrev pub invariant-loop-k : goal.invariant-loop-k
invariant-loop-k l = l.found ≡ filter (has_begun l.self) (take l.k l.starts)
