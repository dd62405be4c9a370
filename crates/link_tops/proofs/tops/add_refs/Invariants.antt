use Rattle.std.proofs.Common.{◌≡◌, take}
use Rattle.std.specs.Prelude.{flat_map}
use Rattle.texts.specs.Names.{with_names}
use Rattle.link_defs.specs.Hierarchy.{refs}
use Rattle.link_tops.proofs.tops.add_refs.Given as goal

abbrev pub invariant-loop-k : goal.invariant-loop-k
invariant-loop-k l = l.names ≡ with_names l.fn.names (flat_map refs (take l.k l.body.items))
