use Rattle.std.proofs.Common.{◌<◌, Bool, List, ◌&&◌, subst, sym}
use Rattle.and_graphs.specs.Graphs.{Means, bit_of}
use Rattle.and_graphs.proofs.Growing.{keeps_on}
use Rattle.net_model.specs.Cycles.{capture}
use Rattle.net_model.specs.Judge.{start_bit}
use Rattle.claim_monitor.specs.Fronts.{sizes_of}
use Rattle.claim_monitor.specs.Shown.{shown_cycle}
use Rattle.claim_monitor.specs.Tells.{toggle_bit, changes_bit, captured, some_stale}
use Rattle.claim_monitor.specs.declared.sizes.Sizes.{Sizes}
use Rattle.claim_monitor.proofs.Showing.{means_self}
use Rattle.claim_monitor.proofs.CaptureLits.{literals_kept}
use Rattle.claim_monitor.proofs.Judging.{sizes_small, cycle_means, bad_tells}
use Rattle.claim_monitor.proofs.bads.late_bad_literal.Goals as goal

pub stale_literals-requires-clause-small : goal.stale_literals-requires-clause-small
stale_literals-requires-clause-small c =
    rw c.of-sizes.ensures (sizes_small c.args.design.now c.args.claim.now c.requires.sound c.requires.fits)

pub change_literal-requires-clause-literals : goal.change_literal-requires-clause-literals
change_literal-requires-clause-literals c =
    literals_kept c.args.graph.now c.stale_literals.new.graph c.args.design.now c.args.literals.now c.in_ok-some.ensures.keeps c.requires.literals

pub change_literal-requires-clause-capture : goal.change_literal-requires-clause-capture
change_literal-requires-clause-capture c =
    cycle_means c.args.graph.now c.stale_literals.new.graph c.args.design.now c.args.literals.now c.args.judged.now.capture
    (capture c.args.design.now c.args.claim.now.end) c.in_ok-some.ensures.keeps c.requires.literals c.requires.capture

pub late_literal-requires-clause-literals : goal.late_literal-requires-clause-literals
late_literal-requires-clause-literals c =
    literals_kept c.args.graph.now c.change_literal.new.graph c.args.design.now c.args.literals.now
    (keeps_on c.args.graph.now c.stale_literals.new.graph c.change_literal.new.graph c.in_ok-some.ensures.keeps c.in_ok-changes.ensures.keeps)
    c.requires.literals

pub late_literal-requires-clause-start : goal.late_literal-requires-clause-start
late_literal-requires-clause-start c =
    cycle_means c.args.graph.now c.change_literal.new.graph c.args.design.now c.args.literals.now c.args.judged.now.start
    (start_bit c.args.claim.now.start)
    (keeps_on c.args.graph.now c.stale_literals.new.graph c.change_literal.new.graph c.in_ok-some.ensures.keeps c.in_ok-changes.ensures.keeps)
    c.requires.literals c.requires.start

pub late_literal-requires-clause-capture : goal.late_literal-requires-clause-capture
late_literal-requires-clause-capture c =
    cycle_means c.args.graph.now c.change_literal.new.graph c.args.design.now c.args.literals.now c.args.judged.now.capture
    (capture c.args.design.now c.args.claim.now.end)
    (keeps_on c.args.graph.now c.stale_literals.new.graph c.change_literal.new.graph c.in_ok-some.ensures.keeps c.in_ok-changes.ensures.keeps)
    c.requires.literals c.requires.capture

pub returns-clause-keeps : goal.returns-clause-keeps
returns-clause-keeps c =
    keeps_on c.args.graph.now c.stale_literals.new.graph c.both-2.new.self c.in_ok-some.ensures.keeps
    (keeps_on c.stale_literals.new.graph c.change_literal.new.graph c.both-2.new.self c.in_ok-changes.ensures.keeps
    (keeps_on c.change_literal.new.graph c.late_literal.new.graph c.both-2.new.self c.in_ok-late.ensures.keeps
    (keeps_on c.late_literal.new.graph c.both.new.self c.both-2.new.self c.both.ensures.keeps c.both-2.ensures.keeps)))

pub returns-clause-tells : goal.returns-clause-tells
returns-clause-tells c =
    let d = c.args.design.now in
    let claim = c.args.claim.now in
    let ls = c.args.literals.now in
    let s = sizes_of d claim in
    let old = c.args.graph.now in
    let at_some = c.stale_literals.new.graph in
    let at_change = c.change_literal.new.graph in
    let at_late = c.late_literal.new.graph in
    let to_here = c.both.ensures.keeps in
    let changes : List Bool → Bool = λ x. changes_bit claim.kind (capture d claim.end (shown_cycle at_some x ls)) (captured s claim.end x (shown_cycle at_some x ls)) in
    let late : List Bool → Bool = λ x. bit_of at_late x c.in_ok-late.late in
    let some : List Bool → Bool = λ x. some_stale s claim x (shown_cycle old x ls) s.judged in
    let toggle : 0 < c.of-sizes.result.judged → Means old c.args.judged.now.toggle (λ x. toggle_bit c.of-sizes.result claim.edge claim.start x (shown_cycle old x ls)) =
    subst (λ (z : Sizes). 0 < z.judged → Means old c.args.judged.now.toggle (λ x. toggle_bit z claim.edge claim.start x (shown_cycle old x ls))) (sym c.of-sizes.ensures)
    c.requires.toggle in
    let of_some : Means at_some c.in_ok-some.some some =
    subst (λ (z : Sizes). Means at_some c.in_ok-some.some (λ x. some_stale z claim x (shown_cycle old x ls) z.judged)) c.of-sizes.ensures
    (c.in_ok-some.ensures.means (λ x. shown_cycle old x ls) c.requires.start toggle) in
    let of_changes : Means at_late c.in_ok-changes.changes changes = c.in_ok-late.ensures.keeps.means c.in_ok-changes.changes changes c.in_ok-changes.ensures.means in
    let some_late : Means at_late c.in_ok-some.some some =
    c.in_ok-late.ensures.keeps.means c.in_ok-some.some some (c.in_ok-changes.ensures.keeps.means c.in_ok-some.some some of_some) in
    bad_tells old at_some at_change at_late c.both-2.new.self d claim ls c.in_ok-late.late c.in_ok-bad.bad c.requires.late c.requires.literals c.in_ok-some.ensures.keeps
    c.in_ok-changes.ensures.keeps c.in_ok-late.ensures.keeps
    (keeps_on at_late c.both.new.self c.both-2.new.self to_here c.both-2.ensures.keeps) c.in_ok-late.ensures.tells
    (c.in_ok-bad.ensures.means (λ x. changes x && late x) some
    (c.in_ok-here.ensures.means changes late of_changes (means_self at_late c.in_ok-late.late c.in_ok-late.ensures.tells.here))
    (to_here.means c.in_ok-some.some some some_late))
