use Rattle.std.proofs.Common.{◌≡◌, ◌∙◌, false, refl, subst, sym}
use Rattle.net_model.specs.Args.{arg_at}
use Rattle.net_model.specs.Cycles.{reg_capture}
use Rattle.net_model.specs.Splitting.{cell_value}
use Rattle.net_model.specs.Ternary.{IsCommonValue}
use Rattle.net_model.specs.Completions.{common_agrees, cell_common}
use Rattle.net_model.proofs.RegCaptures.{capture_agrees}
use Rattle.ternary_sim.proofs.cells.cell_capture.Goals as goal

pub returns : goal.returns
unfolding cell_value
returns c =
    let reg = c.args.reg.now in
    let is : c.common_capture.result ≡ cell_value (reg_capture reg) (arg_at c.args.args.now) =
    c.common_capture.ensures
    ∙ common_agrees 7 7 (reg_capture reg) (arg_at c.args.args.now) (arg_at c.args.args.now) (arg_at c.of.result) (λ _. false)
    (λ a b same. capture_agrees reg 7 a b c.requires.next c.requires.clear c.requires.preset same) (λ i lt. refl) (λ i lt. c.of.ensures i) in
    subst (IsCommonValue (reg_capture reg) (arg_at c.args.args.now)) (sym is)
    (cell_common (reg_capture reg) (arg_at c.args.args.now) (λ a b same. capture_agrees reg 7 a b c.requires.next c.requires.clear c.requires.preset same))
