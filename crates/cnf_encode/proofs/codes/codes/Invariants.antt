use Rattle.std.proofs.Common.{◌≡◌, map, take}
use Rattle.query_model.specs.Variables.{code_of}
use Rattle.cnf_encode.proofs.codes.codes.Given as goal

abbrev pub invariant-loop-l : goal.invariant-loop-l
invariant-loop-l l = l.codes.items ≡ map (code_of l.frames) (take l.l-index l.lits)
