use Rattle.std.proofs.Common.{take}
use Rattle.std.specs.List.{All}
use Rattle.proof_log.specs.Literals.{InVars}
use Rattle.proof_log.specs.Clauses.{IsNormal}
use Rattle.proof_log.proofs.formulas.are_normal.Given as goal

abbrev pub invariant-loop-place : goal.invariant-loop-place
invariant-loop-place l = record {
  normal : All IsNormal (take l.place l.clauses);
  in_vars : All (λ c. All (InVars l.vars) c) (take l.place l.clauses);
}
