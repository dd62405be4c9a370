use Rattle.std.proofs.Common.{take}
use Rattle.std.specs.Prelude.{flat_map}
use Rattle.query_model.specs.Defined.{bit_definition}
use Rattle.cnf_encode.specs.Coned.{of_cone}
use Rattle.cnf_encode.specs.Listed.{Lists, at_place, alone}
use Rattle.cnf_encode.proofs.cycles.list_bits.Given as goal

abbrev pub invariant-loop-j : goal.invariant-loop-j
invariant-loop-j l = Lists l.frames (flat_map (at_place (alone (of_cone bit_definition l.cone l.cycle)) l.cone.design.now.regs) (take l.j l.regs))
    l.fn.clauses l.clauses
