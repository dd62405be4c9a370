use Rattle.std.proofs.Common.{sym, ◌∙◌}
use Rattle.and_graphs.specs.Graphs.{bit_of}
use Rattle.and_graphs.proofs.Growing.{keeps_on}
use Rattle.net_model.specs.Cycles.{capture}
use Rattle.claim_monitor.specs.Shown.{shown_cycle}
use Rattle.claim_monitor.proofs.Showing.{means_self}
use Rattle.claim_monitor.proofs.CaptureLits.{literals_kept}
use Rattle.claim_monitor.proofs.Judging.{late_plain, late_tells, cycle_means}
use Rattle.claim_monitor.proofs.bads.late_literal.Goals as goal

pub returns-then-not-has_late-clause-tells : goal.returns-then-not-has_late-clause-tells
returns-then-not-has_late-clause-tells c =
    late_plain c.args.graph.now c.args.design.now c.args.claim.now c.args.literals.now c.bit_literal.result
    (sym c.has_late.ensures ∙ c.if-not-has_late.true) (c.bit_literal.ensures c.args.graph.now)

pub returns-clause-keeps : goal.returns-clause-keeps
returns-clause-keeps c =
    keeps_on c.args.graph.now c.flipped_literal.new.graph c.differs.new.self c.in_ok-flipped.ensures.keeps c.differs.ensures.keeps

pub returns-clause-tells : goal.returns-clause-tells
returns-clause-tells c =
    let d = c.args.design.now in
    let claim = c.args.claim.now in
    let ls = c.args.literals.now in
    let old = c.args.graph.now in
    let made = c.flipped_literal.new.graph in
    let keeps = c.in_ok-flipped.ensures.keeps in
    let late = c.in_ok-flipped.ensures.late in
    late_tells made c.differs.new.self d claim ls c.in_ok-flipped.flipped c.in_ok-differs.differs c.requires.sound c.requires.fits.end_
    (sym c.has_late.ensures ∙ c.if-not-has_late.false) c.differs.ensures.keeps (literals_kept old made d ls keeps c.requires.literals) late.1
    (c.in_ok-differs.ensures.means (λ x. bit_of made x c.in_ok-flipped.flipped) (λ x. capture d claim.end (shown_cycle made x ls))
    (means_self made c.in_ok-flipped.flipped late.0)
    (cycle_means old made d ls c.args.judged.now.capture (capture d claim.end) keeps c.requires.literals c.requires.capture))
