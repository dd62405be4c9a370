use Rattle.std.proofs.Common.{◌≡◌, [], take}
use Rattle.std.specs.Prelude.{flat_map}
use Rattle.texts.specs.Names.{with_names}
use Rattle.link_tops.specs.Tops.{refs_of}
use Rattle.link_tops.proofs.tops.used_names.Given as goal

abbrev pub invariant-loop-k : goal.invariant-loop-k
invariant-loop-k l = l.names ≡ with_names [] (flat_map refs_of (take l.k l.source.modules))
