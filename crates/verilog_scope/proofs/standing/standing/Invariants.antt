use Rattle.std.proofs.Common.{◌≡◌, ◌++◌, take}
use Rattle.std.specs.List.{flat_map}
use Rattle.texts.specs.Names.{each_once}
use Rattle.verilog_scope.specs.Standing as spec
use Rattle.verilog_scope.proofs.standing.standing.Given as goal

abbrev pub invariant-loop-item : goal.invariant-loop-item
invariant-loop-item l = l.names ≡ each_once (spec.head_names l.decl.head ++ flat_map spec.names_in (take l.item-index l.decl.items))
