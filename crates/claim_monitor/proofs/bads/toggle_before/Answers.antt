use Rattle.std.proofs.Common.{◌≡◌, ◌∙◌, ◌+◌, ◌-◌, sym, ap, arith}
use Rattle.net_model.specs.Cycles.{bit_at}
use Rattle.and_graphs.proofs.Growing.{means_same}
use Rattle.claim_monitor.specs.Fronts.{toggle_place}
use Rattle.claim_monitor.specs.Tells.{toggled}
use Rattle.claim_monitor.proofs.Badness.{toggled_past}
use Rattle.claim_monitor.proofs.bads.toggle_before.Goals as goal

pub returns-then-r-eq0 : goal.returns-then-r-eq0
returns-then-r-eq0 c = λ edge start cycle means. rw c.if-r-eq0.true means

pub returns : goal.returns
returns c =
    λ edge start cycle means.
    let s = c.args.sizes.now in
    let g = c.args.graph.now in
    let place : c.toggles.result + (c.args.r - 1) ≡ toggle_place s (c.args.r - 1) = omega (arith, c.toggles.ensures) in
    means_same g c.in_ok-toggle.toggle (λ x. bit_at x (c.toggles.result + (c.args.r - 1))) (λ x. toggled s edge start x (cycle x) c.args.r)
    (λ x len. ap (bit_at x) place ∙ sym (toggled_past s edge start x (cycle x) c.args.r c.if-r-eq0.false)) c.in_ok-toggle.ensures
