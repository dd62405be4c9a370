use Rattle.std.proofs.Common.{◌<◌, subst}
use Rattle.net_model.specs.Judge.{start_bit}
use Rattle.and_graphs.specs.Graphs.{Means}
use Rattle.claim_monitor.specs.Shown.{shown_cycle}
use Rattle.claim_monitor.specs.Tells.{toggle_bit}
use Rattle.claim_monitor.specs.declared.sizes.Sizes.{Sizes}
use Rattle.claim_monitor.proofs.Judging.{sizes_small}
use Rattle.claim_monitor.proofs.Monitoring.{judged_made}
use Rattle.claim_monitor.proofs.monitors.judged_literals.Goals as goal

pub toggle_literal-requires-clause-small : goal.toggle_literal-requires-clause-small
toggle_literal-requires-clause-small c = rw c.of-sizes.ensures (sizes_small c.args.design.now c.args.claim.now c.requires.sound c.requires.fits)

pub returns-clause-judged : goal.returns-clause-judged
returns-clause-judged c =
    let d = c.args.design.now in
    let claim = c.args.claim.now in
    let ls = c.args.literals.now in
    let old = c.args.graph.now in
    let new = c.toggle_literal.new.graph in
    let toggle = c.in_ok-toggle.toggle in
    let of_start = c.start_literal-start.ensures old c.requires.literals in
    judged_made old new d claim ls c.start_literal-start.result toggle c.end_literal-capture.result c.in_ok-toggle.ensures.keeps c.requires.literals of_start
    (subst (λ (z : Sizes). 0 < z.judged → Means new toggle (λ x. toggle_bit z claim.edge claim.start x (shown_cycle old x ls))) c.of-sizes.ensures
    (λ some. c.in_ok-toggle.ensures.means some (λ x. start_bit claim.start (shown_cycle old x ls)) of_start))
    (c.end_literal-capture.ensures old c.requires.literals c.requires.captures)
