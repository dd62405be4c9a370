use Rattle.std.proofs.Common.{◌≡◌, ◌++◌, take}
use Rattle.sdcv_base.specs.Seqs.{each_at}
use Rattle.report_text.specs.Reports.{command_lines}
use Rattle.report_text.proofs.commands.add_commands.Given as goal

abbrev pub invariant-loop-k : goal.invariant-loop-k
invariant-loop-k l = l.report ≡ l.initial.report ++ each_at command_lines 0 (take l.k l.commands)
