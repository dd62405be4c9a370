use Rattle.std.proofs.Common.{◌≡◌, ◌∙◌, ◌&&◌, true, ap, sym, subst, arith}
use Rattle.and_graphs.specs.Graphs.{Means}
use Rattle.net_model.specs.Cycles.{bit_at}
use Rattle.claim_monitor.specs.Fronts.{early_place, sizes_of}
use Rattle.claim_monitor.specs.Shown.{shown_cycle}
use Rattle.claim_monitor.specs.Tells.{toggle_bit}
use Rattle.claim_monitor.specs.declared.sizes.Sizes.{Sizes}
use Rattle.claim_monitor.proofs.Catching.{early_judged}
use Rattle.claim_monitor.proofs.Judging.{sizes_small, early_bad_tells}
use Rattle.claim_monitor.proofs.bads.bad_literal.Goals as goal

pub early_bad_literal-requires-clause-small : goal.early_bad_literal-requires-clause-small
early_bad_literal-requires-clause-small c =
    rw c.of-sizes.ensures (sizes_small c.args.design.now c.args.claim.now c.requires.sound c.requires.fits)

pub returns-then-sizes-clause-tells : goal.returns-then-sizes-clause-tells
returns-then-sizes-clause-tells c =
    let d = c.args.design.now in
    let claim = c.args.claim.now in
    let ls = c.args.literals.now in
    let old = c.args.graph.now in
    let new = c.early_bad_literal.new.graph in
    let bad = c.in_ok-bad.bad in
    let side : claim.early ≡ true = ap (λ (s : Sizes). s.has_early) (sym c.of-sizes.ensures) ∙ c.if-sizes.true in
    let one = early_judged claim.early claim.kind claim.lag c.requires.fits.side side in
    let toggle = c.requires.toggle (omega (arith, one.1)) in
    early_bad_tells old new d claim ls bad c.requires.fits side c.requires.literals c.in_ok-bad.ensures.keeps
    (subst (λ (s : Sizes). Means new bad (λ x. toggle_bit (sizes_of d claim) claim.edge claim.start x (shown_cycle old x ls) && bit_at x (early_place s)))
    c.of-sizes.ensures (c.in_ok-bad.ensures.means (λ x. toggle_bit (sizes_of d claim) claim.edge claim.start x (shown_cycle old x ls)) toggle))

pub late_bad_literal-requires-clause-late : goal.late_bad_literal-requires-clause-late
late_bad_literal-requires-clause-late c = ap (λ (s : Sizes). s.has_early) (sym c.of-sizes.ensures) ∙ c.if-sizes.false
