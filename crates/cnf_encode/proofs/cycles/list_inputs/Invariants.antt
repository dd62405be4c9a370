use Rattle.std.proofs.Common.{take}
use Rattle.std.specs.Prelude.{flat_map}
use Rattle.query_model.specs.Defined.{input_definition}
use Rattle.cnf_encode.specs.Listed.{Lists}
use Rattle.cnf_encode.proofs.cycles.list_inputs.Given as goal

abbrev pub invariant-loop-j : goal.invariant-loop-j
invariant-loop-j l = Lists l.frames (flat_map (input_definition l.cone.design.now l.cone.live l.cycle) (take l.j l.inputs)) l.fn.clauses l.clauses
