use Rattle.std.proofs.Common.{true, map, take}
use Rattle.query_model.specs.Keys.{lit}
use Rattle.query_model.specs.Tables.{cube_clause}
use Rattle.cnf_encode.specs.Coded.{Adds}
use Rattle.cnf_encode.proofs.tables.push_plain.Given as goal

abbrev pub invariant-loop-cube : goal.invariant-loop-cube
invariant-loop-cube l = Adds l.frames (map (cube_clause l.reads (lit true l.fn.out)) (take l.cube-index l.cubes)) l.fn.clauses l.clauses
