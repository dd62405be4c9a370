use Rattle.std.proofs.Common.{◌≡◌, ◌<◌, ◌++◌, ◌∙◌, refl, ap, subst}
use Rattle.and_graphs.specs.Graphs.{IsOrdered}
use Rattle.and_graphs.specs.declared.aigs.Aig.{Aig}
use Rattle.and_graphs.proofs.Growing.{keeps_on}
use Rattle.claim_monitor.specs.Fronts.{front_count, sizes_of}
use Rattle.claim_monitor.specs.Shown.{AreCycleLiterals}
use Rattle.claim_monitor.specs.Histories.{AreLatches}
use Rattle.claim_monitor.specs.Monitors.{IsMonitor, IsAigOf}
use Rattle.claim_monitor.specs.declared.sizes.Sizes.{Sizes}
use Rattle.claim_monitor.proofs.Showing.{in_kept}
use Rattle.claim_monitor.proofs.CaptureLits.{literals_kept}
use Rattle.claim_monitor.proofs.Judging.{sizes_small, bad_kept}
use Rattle.claim_monitor.proofs.Following.{nexts_follow}
use Rattle.claim_monitor.proofs.Monitoring.{cycle_counts, cycle_literals_kept, captures_kept, judged_kept, none_ordered, aig_made, form_made}
use Rattle.claim_monitor.proofs.Watching.{Monitor, registers_shown, monitor_watches}
use Rattle.claim_monitor.proofs.monitors.watch.Goals as goal

pub front-requires : goal.front-requires
front-requires c = rw c.of-sizes.ensures (sizes_small c.args.design.now c.args.claim.now c.requires.sound c.requires.fits)

pub literals_of-requires-clause-small : goal.literals_of-requires-clause-small
literals_of-requires-clause-small c = rw c.of-sizes.ensures (sizes_small c.args.design.now c.args.claim.now c.requires.sound c.requires.fits)

pub next_literals-requires-clause-literals : goal.next_literals-requires-clause-literals
next_literals-requires-clause-literals c =
    cycle_counts c.literals_of.new.graph c.args.design.now c.of-sizes.result c.in_ok-literals.literals c.in_ok-literals.ensures.literals

pub judged_literals-requires-clause-literals : goal.judged_literals-requires-clause-literals
judged_literals-requires-clause-literals c =
    literals_kept c.literals_of.new.graph c.next_literals.new.graph c.args.design.now c.in_ok-literals.literals c.in_ok-captures.ensures.keeps
    (cycle_counts c.literals_of.new.graph c.args.design.now c.of-sizes.result c.in_ok-literals.literals c.in_ok-literals.ensures.literals)

pub bad_literal-requires-clause-literals : goal.bad_literal-requires-clause-literals
bad_literal-requires-clause-literals c =
    literals_kept c.literals_of.new.graph c.judged_literals.new.graph c.args.design.now c.in_ok-literals.literals
    (keeps_on c.literals_of.new.graph c.next_literals.new.graph c.judged_literals.new.graph c.in_ok-captures.ensures.keeps c.in_ok-judged.ensures.keeps)
    (cycle_counts c.literals_of.new.graph c.args.design.now c.of-sizes.result c.in_ok-literals.literals c.in_ok-literals.ensures.literals)

pub early_literal-requires-clause-literals : goal.early_literal-requires-clause-literals
early_literal-requires-clause-literals c =
    let at_judged = literals_kept c.literals_of.new.graph c.judged_literals.new.graph c.args.design.now c.in_ok-literals.literals
    (keeps_on c.literals_of.new.graph c.next_literals.new.graph c.judged_literals.new.graph c.in_ok-captures.ensures.keeps c.in_ok-judged.ensures.keeps)
    (cycle_counts c.literals_of.new.graph c.args.design.now c.of-sizes.result c.in_ok-literals.literals c.in_ok-literals.ensures.literals) in
    literals_kept c.judged_literals.new.graph c.bad_literal.new.graph c.args.design.now c.in_ok-literals.literals c.in_ok-bad.ensures.keeps at_judged

pub early_literal-requires-clause-start : goal.early_literal-requires-clause-start
early_literal-requires-clause-start c =
    let at_judged = literals_kept c.literals_of.new.graph c.judged_literals.new.graph c.args.design.now c.in_ok-literals.literals
    (keeps_on c.literals_of.new.graph c.next_literals.new.graph c.judged_literals.new.graph c.in_ok-captures.ensures.keeps c.in_ok-judged.ensures.keeps)
    (cycle_counts c.literals_of.new.graph c.args.design.now c.of-sizes.result c.in_ok-literals.literals c.in_ok-literals.ensures.literals) in
    (judged_kept c.judged_literals.new.graph c.bad_literal.new.graph c.args.design.now c.args.claim.now c.in_ok-literals.literals c.in_ok-judged.judged
    c.in_ok-bad.ensures.keeps at_judged c.in_ok-judged.ensures.judged).start

pub early_literal-requires-clause-capture : goal.early_literal-requires-clause-capture
early_literal-requires-clause-capture c =
    let at_judged = literals_kept c.literals_of.new.graph c.judged_literals.new.graph c.args.design.now c.in_ok-literals.literals
    (keeps_on c.literals_of.new.graph c.next_literals.new.graph c.judged_literals.new.graph c.in_ok-captures.ensures.keeps c.in_ok-judged.ensures.keeps)
    (cycle_counts c.literals_of.new.graph c.args.design.now c.of-sizes.result c.in_ok-literals.literals c.in_ok-literals.ensures.literals) in
    (judged_kept c.judged_literals.new.graph c.bad_literal.new.graph c.args.design.now c.args.claim.now c.in_ok-literals.literals c.in_ok-judged.judged
    c.in_ok-bad.ensures.keeps at_judged c.in_ok-judged.ensures.judged).capture

pub latches_of-requires-clause-small : goal.latches_of-requires-clause-small
latches_of-requires-clause-small c = rw c.of-sizes.ensures (sizes_small c.args.design.now c.args.claim.now c.requires.sound c.requires.fits)

pub latches_of-requires-clause-start : goal.latches_of-requires-clause-start
latches_of-requires-clause-start c =
    in_kept c.judged_literals.new.graph c.early_literal.new.graph c.in_ok-judged.judged.start
    (keeps_on c.judged_literals.new.graph c.bad_literal.new.graph c.early_literal.new.graph c.in_ok-bad.ensures.keeps c.in_ok-early.ensures.keeps)
    c.in_ok-judged.ensures.judged.start.here

pub latches_of-requires-clause-toggle : goal.latches_of-requires-clause-toggle
latches_of-requires-clause-toggle c =
    λ some.
    let judges = subst (λ (z : Sizes). 0 < z.judged) c.of-sizes.ensures some in
    in_kept c.judged_literals.new.graph c.early_literal.new.graph c.in_ok-judged.judged.toggle
    (keeps_on c.judged_literals.new.graph c.bad_literal.new.graph c.early_literal.new.graph c.in_ok-bad.ensures.keeps c.in_ok-early.ensures.keeps)
    (c.in_ok-judged.ensures.judged.toggle judges).here

pub latches_of-requires-clause-capture : goal.latches_of-requires-clause-capture
latches_of-requires-clause-capture c =
    in_kept c.judged_literals.new.graph c.early_literal.new.graph c.in_ok-judged.judged.capture
    (keeps_on c.judged_literals.new.graph c.bad_literal.new.graph c.early_literal.new.graph c.in_ok-bad.ensures.keeps c.in_ok-early.ensures.keeps)
    c.in_ok-judged.ensures.judged.capture.here

pub returns : goal.returns
returns c =
    let d = c.args.design.now in
    let claim = c.args.claim.now in
    let s = c.of-sizes.result in
    let ls = c.in_ok-literals.literals in
    let captures = c.in_ok-captures.captures in
    let judged = c.in_ok-judged.judged in
    let bad = c.in_ok-bad.bad in
    let early = c.in_ok-early.early in
    let latches = c.in_ok-latches.latches in
    let none = c.new-graph.result in
    let first = c.literals_of.new.graph in
    let second = c.next_literals.new.graph in
    let third = c.judged_literals.new.graph in
    let fourth = c.bad_literal.new.graph in
    let g = c.early_literal.new.graph in
    let second_third = c.in_ok-judged.ensures.keeps in
    let third_fourth = c.in_ok-bad.ensures.keeps in
    let fourth_last = c.in_ok-early.ensures.keeps in
    let third_last = keeps_on third fourth g third_fourth fourth_last in
    let second_last = keeps_on second third g second_third third_last in
    let first_last = keeps_on first second g c.in_ok-captures.ensures.keeps second_last in
    let counts = cycle_counts first d s ls c.in_ok-literals.ensures.literals in
    let at_second = literals_kept first second d ls c.in_ok-captures.ensures.keeps counts in
    let at_third = literals_kept second third d ls second_third at_second in
    let at_fourth = literals_kept third fourth d ls third_fourth at_third in
    let of_regs = captures_kept second g d ls captures second_last at_second c.in_ok-captures.ensures.captures in
    let of_judged = judged_kept third g d claim ls judged third_last at_third c.in_ok-judged.ensures.judged in
    let of_bad = bad_kept fourth g d claim ls bad fourth_last at_fourth c.in_ok-bad.ensures.tells in
    let are : AreLatches g (sizes_of d claim) captures judged early latches =
    subst (λ (z : Sizes). AreLatches g z captures judged early latches) c.of-sizes.ensures c.in_ok-latches.ensures in
    let after = are.rest ++ are.last in
    let row = captures ++ after in
    let nexts = nexts_follow g d claim ls judged early captures are.rest are.last of_regs of_judged c.in_ok-early.ensures.tells are.histories are.history in
    let cycle : AreCycleLiterals g d (sizes_of d claim) ls =
    subst (λ (z : Sizes). AreCycleLiterals g d z ls) c.of-sizes.ensures (cycle_literals_kept first g d s ls first_last c.in_ok-literals.ensures.literals) in
    let front : g.front ≡ front_count (sizes_of d claim) =
    first_last.front ∙ (c.in_ok-literals.ensures.keeps.front ∙ (c.new-graph.ensures.front ∙ (c.front.ensures ∙ ap front_count c.of-sizes.ensures))) in
    let is : IsMonitor g d claim ls row bad = record { front = front; literals = cycle; nexts = nexts; bad = of_bad } in
    let a : Aig = record { inputs = s.inputs; latches = latches; bad = bad; lines = g.lines } in
    let made : IsAigOf g d claim row bad a =
    aig_made g d claim captures after a of_regs.count nexts.count are.made (ap (λ (z : Sizes). z.inputs) c.of-sizes.ensures) refl in
    let ordered : IsOrdered g = first_last.ordered (c.in_ok-literals.ensures.keeps.ordered (none_ordered none c.new-graph.ensures.lines)) in
    let m : Monitor d claim a = record { graph = g; literals = ls; nexts = row; bad = bad; sound = c.requires.sound; is = is; made = made } in
    record {
      form = form_made g d claim ls row bad a is made ordered;
      inputs = made.inputs;
      latches = made.is_any;
      which = λ run any ins t r cycle of_run bits at low. registers_shown d claim a run any ins t r cycle m (record { is = of_run; bits = bits }) at low;
      bad = λ run any ins t of_run bits within.
          monitor_watches d claim a run any ins t c.requires.fits c.requires.plain m (record { is = of_run; bits = bits }) within;
    }
