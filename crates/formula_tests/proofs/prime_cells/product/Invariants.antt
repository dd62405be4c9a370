use Rattle.net_model.specs.Form.{IsOver}
use Rattle.formula_tests.proofs.prime_cells.product.Given as goal

abbrev pub invariant-loop-place : goal.invariant-loop-place
invariant-loop-place l = IsOver l.places l.func
