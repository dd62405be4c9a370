use Rattle.std.proofs.Common.{◌≡◌, true, take}
use Rattle.std.specs.List.{All}
use Rattle.proof_log.specs.Clauses.{clause_true}
use Rattle.proof_log.specs.Formulas.{value_in}
use Rattle.formula_tests.proofs.plain_answers.are_true.Given as goal

abbrev pub invariant-loop-place : goal.invariant-loop-place
invariant-loop-place l = All (λ c. clause_true (value_in l.model.values) c ≡ true) (take l.place l.formula.clauses)
