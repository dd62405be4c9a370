use Rattle.std.proofs.Common.{ap, arith}
use Rattle.clap.specs.Words.{App, with_rule, rule_of}
use Rattle.clap_words.specs.declared.commands.PositionRow.{PositionRow as ThePositionRow}
use Rattle.clap_words.specs.Apps.{position_rule}
use Rattle.clap_words.proofs.Chain.{makes_more, rule_more}
use Rattle.clap_words.proofs.apps.with_positions.Goals as goal

pub loop-row-preserved : goal.loop-row-preserved
loop-row-preserved c = λ reads.
    makes_more c.args.start c.loop-row.command c.in_ok-command.command
    (λ (a : App) (row : ThePositionRow). with_rule a (position_rule row.id.now)) (λ (a : App). with_rule a (rule_of c.position.result))
    c.args.positions.now c.loop-row.row-index _ (omega arith) (c.loop-row.invariant reads) (rule_more c.loop-row.command c.in_ok-command.command c.position.result c.position.ensures.local c.in_ok-command.ensures)
    (λ (a : App). ap (with_rule a) (c.position.ensures.rule reads))
