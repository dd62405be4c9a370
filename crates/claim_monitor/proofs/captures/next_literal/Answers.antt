use Rattle.std.proofs.Common.{ℕ}
use Rattle.std.proofs.lemmas.Result.{IfOk-weaker}
use Rattle.net_model.specs.Cycles.{capture}
use Rattle.net_model.specs.declared.claims.End.TheVariants.{Reg}
use Rattle.and_graphs.specs.Graphs.{Means}
use Rattle.claim_monitor.specs.Shown.{shown_cycle}
use Rattle.claim_monitor.specs.Captured.{LowersCapture}
use Rattle.claim_monitor.proofs.CaptureLits.{reg_over_seven, next_means}
use Rattle.claim_monitor.proofs.captures.next_literal.Goals as goal

pub reg_capture_literal-requires : goal.reg_capture_literal-requires
reg_capture_literal-requires c = reg_over_seven c.args.design.now c.args.r c.item-reg.result.now c.requires.sound c.item-reg.ensures

pub returns-clause-means : goal.returns-clause-means
returns-clause-means c =
    let d = c.args.design.now in
    let ls = c.args.literals.now in
    let old = c.args.graph.now in
    let new = c.reg_capture_literal.new.graph in
    IfOk-weaker c.reg_capture_literal.result (LowersCapture old c.reg_literals-args.result c.item-reg.result.now new)
    (λ (l : ℕ). Means new l (λ x. capture d (Reg c.args.r) (shown_cycle old x ls)))
    (λ l lowers. next_means old new d ls c.args.r c.item-reg.result.now c.at-own.result c.reg_literals-args.result l c.requires.sound c.item-reg.ensures
    c.at-own.ensures c.reg_capture_literal.ensures.keeps c.requires.literals c.reg_literals-args.ensures lowers)
    c.reg_capture_literal.ensures.means
