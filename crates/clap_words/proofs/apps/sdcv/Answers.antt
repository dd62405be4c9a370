use Rattle.std.proofs.Common.{◌∙◌, ap, arith, take_all}
use Rattle.clap_words.specs.Apps.{top_app, with_commands}
use Rattle.clap_words.proofs.Chain.{all_commands, commands_more}
use Rattle.clap_words.proofs.apps.sdcv.Goals as goal

pub loop-row-preserved : goal.loop-row-preserved
loop-row-preserved c = λ reads.
    commands_more c.loop-row.command c.in_ok-sub.sub c.in_ok-command-2.command c.rows-row-items.result.now c.loop-row.row-index _ (omega arith)
    (c.loop-row.invariant reads) (c.in_ok-sub.ensures reads) c.in_ok-command-2.ensures

pub returns : goal.returns
returns c = λ reads.
    let rows = c.rows-row-items.result.now in
    let all = take_all c.loop-row.row-index rows (omega arith) in
    let is = c.loop-row.invariant reads in
    (is.0 ∙ ap (λ r. with_commands r top_app) all ∙ all_commands rows c.rows-row-items.ensures, is.1)
