use Rattle.std.proofs.lemmas.Result.{IfOk-weaker}
use Rattle.and_graphs.specs.Graphs.{Lowers}
use Rattle.claim_monitor.specs.Captured.{LowersCapture}
use Rattle.claim_monitor.proofs.CaptureLits.{capture_lowered}
use Rattle.claim_monitor.proofs.captures.reg_capture_literal.Goals as goal

pub lower-requires : goal.lower-requires
lower-requires c = c.in_ok-func.ensures.over 7 c.requires.next c.requires.clear c.requires.preset

pub returns-clause-means : goal.returns-clause-means
returns-clause-means c =
    IfOk-weaker c.lower.result (Lowers c.args.graph.now c.args.args.now c.in_ok-func.func c.lower.new.self)
    (LowersCapture c.args.graph.now c.args.args.now c.args.reg.now c.lower.new.self)
    (λ l lowers. capture_lowered c.args.graph.now c.lower.new.self c.args.reg.now c.in_ok-func.func c.args.args.now l c.in_ok-func.ensures.value lowers)
    c.lower.ensures.means
