use Rattle.std.proofs.Common.{◌-◌, true, if◌then◌else◌, eq-eqb, sym, ap, Bool}
use Rattle.net_model.specs.Cycles.{bit_at}
use Rattle.and_graphs.proofs.Growing.{means_same}
use Rattle.claim_monitor.specs.Fronts.{reset_place}
use Rattle.claim_monitor.specs.Shown.{is_live}
use Rattle.claim_monitor.proofs.inputs.live_literal.Goals as goal

pub returns-then-sizes-eq0 : goal.returns-then-sizes-eq0
returns-then-sizes-eq0 c =
    let s = c.args.sizes.now in
    means_same c.args.graph.now c.bit_literal.result (λ x. true) (is_live s)
    (λ x len. sym (ap (λ (b : Bool). if b then true else bit_at x (reset_place s (s.resets - 1))) (eq-eqb s.resets 0 c.if-sizes-eq0.true)))
    (c.bit_literal.ensures c.args.graph.now)
