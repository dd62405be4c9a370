use Rattle.std.proofs.Common.{take}
use Rattle.std.specs.Prelude.{flat_map}
use Rattle.cnf_encode.specs.Coned.{of_cone}
use Rattle.cnf_encode.specs.Listed.{Lists, at_place, gate_alone}
use Rattle.cnf_encode.proofs.cycles.list_gates.Given as goal

abbrev pub invariant-loop-j : goal.invariant-loop-j
invariant-loop-j l = Lists l.frames (flat_map (at_place (of_cone gate_alone l.cone l.cycle) l.cone.design.now.gates) (take l.j l.gates)) l.fn.clauses
    l.clauses
