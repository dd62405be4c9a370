use Rattle.net_model.specs.Form.{IsOver}
use Rattle.formula_tests.proofs.prime_cells.sum.Given as goal

abbrev pub invariant-loop-marks : goal.invariant-loop-marks
invariant-loop-marks l = IsOver l.places l.func
