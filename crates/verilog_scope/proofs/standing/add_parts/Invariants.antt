use Rattle.std.proofs.Common.{◌≡◌, take}
use Rattle.std.specs.List.{flat_map}
use Rattle.texts.specs.Names.{with_names}
use Rattle.verilog_scope.specs.Standing as spec
use Rattle.verilog_scope.proofs.standing.add_parts.Given as goal

abbrev pub invariant-loop-part : goal.invariant-loop-part
invariant-loop-part l = l.names ≡ with_names l.fn.names (flat_map spec.names_of_part (take l.part-index l.parts))
