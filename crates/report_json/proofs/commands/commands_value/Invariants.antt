use Rattle.std.proofs.Common.{◌≡◌, map, take}
use Rattle.serde_json.specs.View.{view}
use Rattle.sdcv_base.specs.Seqs.{each_at}
use Rattle.report_json.specs.Reports.{one_command}
use Rattle.report_json.proofs.commands.commands_value.Given as goal

abbrev pub invariant-loop-k : goal.invariant-loop-k
invariant-loop-k l = map view l.list.items ≡ each_at one_command 0 (take l.k l.commands)
