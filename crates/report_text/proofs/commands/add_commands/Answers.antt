use Rattle.std.proofs.Common.{arith}
use Rattle.list_laws.proofs.Joining.{added, added_all}
use Rattle.report_text.specs.Reports.{command_lines}
use Rattle.report_text.proofs.commands.add_commands.Goals as goal

pub loop-k-preserved : goal.loop-k-preserved
loop-k-preserved c =
    added command_lines c.args.commands.now c.args.report.now c.loop-k.report c.add_command.new.report c.loop-k.k _ c.item.ensures c.loop-k.invariant
    c.in_ok-add_command.ensures

pub returns : goal.returns
returns c = added_all command_lines c.args.commands.now c.args.report.now c.loop-k.report c.loop-k.k (omega arith) c.loop-k.invariant
