use Rattle.std.proofs.Common.{◌≡◌, map, take}
use Rattle.sdcv_words.proofs.skips.names_of.Given as goal

abbrev pub invariant-loop-part : goal.invariant-loop-part
invariant-loop-part l = l.names ≡ map (λ part. part.now) (take l.part-index l.parts)
