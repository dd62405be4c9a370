use Rattle.std.proofs.Common.{◌≡◌}
use Rattle.link_defs.specs.Parts.{folded}
use Rattle.link_items.specs.Prims.{op_form}
use Rattle.link_items.proofs.prims.folded.Given as goal

abbrev pub invariant-loop-k : goal.invariant-loop-k
invariant-loop-k l = l.func ≡ folded (op_form l.op) l.k
