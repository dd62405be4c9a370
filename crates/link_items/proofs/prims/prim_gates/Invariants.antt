use Rattle.std.proofs.Common.{◌≡◌, map, take}
use Rattle.std.specs.Prelude.{slice_index}
use Rattle.link_defs.specs.Parts.{prim_gate}
use Rattle.link_items.proofs.prims.prim_gates.Given as goal

abbrev pub invariant-loop-k : goal.invariant-loop-k
invariant-loop-k l = l.gates ≡ map (λ out. prim_gate l.kind l.ins (slice_index l.nets out)) (take l.k l.outs)
