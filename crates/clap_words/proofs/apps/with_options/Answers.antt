use Rattle.std.proofs.Common.{ap, arith}
use Rattle.clap.specs.Words.{App, with_rule, rule_of}
use Rattle.clap_words.specs.declared.commands.OptionRow.{OptionRow as TheOptionRow}
use Rattle.clap_words.specs.Apps.{option_rule}
use Rattle.clap_words.proofs.Chain.{makes_more, rule_more}
use Rattle.clap_words.proofs.apps.with_options.Goals as goal

pub loop-row-preserved : goal.loop-row-preserved
loop-row-preserved c = λ reads.
    makes_more c.args.start c.loop-row.command c.in_ok-command.command
    (λ (a : App) (row : TheOptionRow). with_rule a (option_rule row.id.now row.form)) (λ (a : App). with_rule a (rule_of c.option.result))
    c.args.options.now c.loop-row.row-index _ (omega arith) (c.loop-row.invariant reads) (rule_more c.loop-row.command c.in_ok-command.command c.option.result c.option.ensures.local c.in_ok-command.ensures)
    (λ (a : App). ap (with_rule a) (c.option.ensures.rule reads))
