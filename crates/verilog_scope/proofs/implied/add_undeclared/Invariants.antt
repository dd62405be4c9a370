use Rattle.std.proofs.Common.{◌≡◌, filter, take}
use Rattle.texts.specs.Names.{with_names}
use Rattle.verilog_scope.specs.Scopes as scope
use Rattle.verilog_scope.proofs.implied.add_undeclared.Given as goal

abbrev pub invariant-loop-name : goal.invariant-loop-name
invariant-loop-name l = l.wires ≡ with_names l.fn.wires (filter (scope.is_undeclared l.names l.decls) (take l.name-index l.found))
