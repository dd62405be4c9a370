use Rattle.std.proofs.Common.{◌≡◌, [], drop}
use Rattle.verilog_scope.specs.Folds.{fold_ok}
use Rattle.verilog_net.specs.Wires as spec
use Rattle.verilog_net.proofs.wires.wires_of.Given as goal

abbrev pub invariant-loop-part : goal.invariant-loop-part
invariant-loop-part l = fold_ok (spec.add_part l.scope) [] l.parts ≡ fold_ok (spec.add_part l.scope) l.found (drop l.part-index l.parts)
