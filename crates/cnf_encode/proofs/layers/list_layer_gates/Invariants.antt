use Rattle.std.proofs.Common.{take}
use Rattle.std.specs.Prelude.{flat_map}
use Rattle.query_model.specs.Defined.{layer_gate}
use Rattle.cnf_encode.specs.Late.{of_late}
use Rattle.cnf_encode.specs.Listed.{Lists, at_place}
use Rattle.cnf_encode.proofs.layers.list_layer_gates.Given as goal

abbrev pub invariant-loop-j : goal.invariant-loop-j
invariant-loop-j l =
    Lists l.frames (flat_map (at_place (of_late layer_gate l.late l.layer_at.cycle l.layer_at.layer) l.late.subject.design.now.gates) (take l.j l.gates))
    l.fn.clauses l.clauses
