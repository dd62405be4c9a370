use Rattle.std.proofs.Common.{◌≡◌, map, take}
use Rattle.std.specs.Prelude.{string_bytes}
use Rattle.report_groups.specs.Remarks.{line_remark_text}
use Rattle.view_commands.proofs.gates.remark_lines.Given as goal

abbrev pub invariant-loop-remark : goal.invariant-loop-remark
invariant-loop-remark l = map string_bytes l.out ≡ map (line_remark_text l.name) (take l.remark-index l.remarks)
