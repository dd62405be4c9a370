use Rattle.std.proofs.Common.{◌≡◌, take}
use Rattle.std.specs.List.{flat_map}
use Rattle.texts.specs.Names.{each_once}
use Rattle.verilog_scope.specs.Standing as spec
use Rattle.verilog_scope.proofs.implied.implied_names.Given as goal

abbrev pub invariant-loop-item : goal.invariant-loop-item
invariant-loop-item l = l.names ≡ each_once (flat_map spec.implied_in (take l.item-index l.decl.items))
