use Rattle.and_graphs.proofs.Growing.{keeps_on}
use Rattle.claim_monitor.proofs.CaptureLits.{literals_kept}
use Rattle.claim_monitor.proofs.LateCaptures.{flipped_late}
use Rattle.claim_monitor.proofs.lates.flipped_literal.Goals as goal

pub make_layers-requires-clause-literal : goal.make_layers-requires-clause-literal
make_layers-requires-clause-literal c = (c.complement-late.ensures c.args.graph.now _ c.requires.start).here

pub capture_last-requires-clause-literals : goal.capture_last-requires-clause-literals
capture_last-requires-clause-literals c =
    literals_kept c.args.graph.now c.make_layers.new.graph c.args.design.now c.args.literals.now c.in_ok-make_layers.ensures.keeps c.requires.literals

pub returns-clause-keeps : goal.returns-clause-keeps
returns-clause-keeps c =
    keeps_on c.args.graph.now c.make_layers.new.graph c.capture_last.new.graph c.in_ok-make_layers.ensures.keeps c.in_ok-literal.ensures.keeps

pub returns-clause-late : goal.returns-clause-late
returns-clause-late c =
    flipped_late c.args.graph.now c.make_layers.new.graph c.capture_last.new.graph c.args.design.now c.args.claim.now c.args.literals.now
    c.complement-late.result c.in_ok-literal.literal c.make_layers.new.rows c.in_ok-make_layers.ensures.keeps c.in_ok-literal.ensures.keeps
    c.requires.literals (c.complement-late.ensures c.args.graph.now _ c.requires.start) c.in_ok-make_layers.ensures.layers c.in_ok-literal.ensures.means
