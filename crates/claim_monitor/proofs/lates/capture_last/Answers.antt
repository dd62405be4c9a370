use Rattle.std.proofs.Common.{◌<◌, ℕ, arith}
use Rattle.std.proofs.lemmas.Result.{IfOk-weaker}
use Rattle.net_model.specs.Layers.{capture_over}
use Rattle.net_model.specs.declared.claims.End.TheVariants.{Reg}
use Rattle.net_model.proofs.Settling.{All-at}
use Rattle.and_graphs.specs.Graphs.{Means}
use Rattle.claim_monitor.specs.Shown.{shown_cycle}
use Rattle.claim_monitor.specs.Captured.{LowersCapture}
use Rattle.claim_monitor.specs.Layered.{shown_rows}
use Rattle.claim_monitor.proofs.CaptureLits.{reg_over_seven}
use Rattle.claim_monitor.proofs.LateCaptures.{late_reg_means, late_output_means}
use Rattle.claim_monitor.proofs.lates.capture_last.Goals as goal

pub reg_capture_literal-requires : goal.reg_capture_literal-requires
reg_capture_literal-requires c = reg_over_seven c.args.design.now c.in-Reg.r c.item-reg.result.now c.requires.sound c.item-reg.ensures

pub layer_pin-requires-clause-nets : goal.layer_pin-requires-clause-nets
layer_pin-requires-clause-nets c =
    λ m le.
    let low = All-at (λ n. n < c.args.design.now.nets) c.args.design.now.outputs c.in-Output.o c.at-net.result c.at-net.ensures
    c.requires.sound.in_range.outputs in
    omega (arith, c.requires.rows.lens m (omega arith))

pub returns-in-Reg-clause-means : goal.returns-in-Reg-clause-means
returns-in-Reg-clause-means c =
    let d = c.args.design.now in
    let sets = c.args.claim.now.through in
    let rows = c.args.rows.now in
    let ls = c.args.literals.now in
    let old = c.args.graph.now in
    let new = c.reg_capture_literal.new.graph in
    rw c.in-Reg.is (IfOk-weaker c.reg_capture_literal.result (LowersCapture old c.late_reg_args-args.result c.item-reg.result.now new)
    (λ (l : ℕ). Means new l (λ x. capture_over d sets (shown_rows old x rows) (Reg c.in-Reg.r) (shown_cycle old x ls)))
    (λ l lowers. late_reg_means old new d sets rows ls c.in-Reg.r c.item-reg.result.now c.at-own.result c.late_reg_args-args.result l c.requires.sound
    c.item-reg.ensures c.at-own.ensures c.reg_capture_literal.ensures.keeps c.requires.literals c.requires.rows c.late_reg_args-args.ensures lowers)
    c.reg_capture_literal.ensures.means)

pub returns-in-Output-clause-means : goal.returns-in-Output-clause-means
returns-in-Output-clause-means c =
    rw c.in-Output.is (late_output_means c.args.graph.now c.args.design.now c.args.claim.now.through c.args.rows.now c.args.literals.now c.in-Output.o
    c.at-net.result c.layer_pin.result c.requires.sound c.at-net.ensures c.requires.rows (rw (← c.len.ensures) c.layer_pin.ensures))
