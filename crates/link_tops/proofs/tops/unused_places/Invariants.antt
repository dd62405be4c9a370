use Rattle.std.proofs.Common.{take}
use Rattle.std.specs.Prelude.{filter}
use Rattle.link_tops.specs.Tops.{AreAt, is_unused}
use Rattle.link_tops.proofs.tops.unused_places.Given as goal

abbrev pub invariant-loop-k : goal.invariant-loop-k
invariant-loop-k l = AreAt l.modules l.places (filter (is_unused l.used) (take l.k l.modules))
