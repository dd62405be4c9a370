use Rattle.std.proofs.Common.{take}
use Rattle.std.specs.Prelude.{flat_map}
use Rattle.cnf_encode.specs.Listed.{Lists}
use Rattle.query_model.specs.Defined.{start_net}
use Rattle.cnf_encode.proofs.layers.list_start_nets.Given as goal

abbrev pub invariant-loop-j : goal.invariant-loop-j
invariant-loop-j l = Lists l.frames (flat_map (start_net l.cycle) (take l.j l.starts)) l.fn.clauses l.clauses
