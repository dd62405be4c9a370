use Rattle.std.proofs.Common.{take}
use Rattle.cnf_encode.specs.Coded.{AreCodes}
use Rattle.cnf_encode.proofs.codes.known_codes.Given as goal

abbrev pub invariant-loop-l : goal.invariant-loop-l
invariant-loop-l l = AreCodes l.frames (take l.l-index l.lits) l.codes.items
