use Rattle.std.proofs.Common.{map, take}
use Rattle.cnf_encode.specs.Coded.{Adds}
use Rattle.cnf_encode.specs.Railed.{may_be_so}
use Rattle.cnf_encode.proofs.tables.push_may.Given as goal

abbrev pub invariant-loop-cube : goal.invariant-loop-cube
invariant-loop-cube l = Adds l.frames (map (may_be_so l.rails) (take l.cube-index l.cubes)) l.fn.clauses l.clauses
