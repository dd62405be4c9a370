use Rattle.run_views.specs.declared.outcomes.Violation.{Violation}
use Rattle.run_views.proofs.Replayed.{replayed, violation_of, showable}
use Rattle.run_views.proofs.violations.violation.Goals as goal

pub returns-in_default-first_bad-clause-ok : goal.returns-in_default-first_bad-clause-ok
returns-in_default-first_bad-clause-ok c =
    let is = replayed c.args.design.now c.args.claim.now c.args.stimulus.now c.in_ok-toggle.field-0 c.in-Violated.toggle c.in_ok-run.run' c.in-Violated.is
    c.in_ok-toggle.ensures.ok c.in_ok-run.ensures.linked c.in_ok-run.ensures.stands in
    absurd (c.in_default-first_bad.ensures is.first.0)

pub returns-clause-ok : goal.returns-clause-ok
returns-clause-ok c =
    let v : Violation = record { run = c.in_ok-run.run'; toggle = c.in-Violated.toggle; judged = c.in-Some.judged } in
    let is = replayed c.args.design.now c.args.claim.now c.args.stimulus.now c.in_ok-toggle.field-0 c.in-Violated.toggle c.in_ok-run.run' c.in-Violated.is
    c.in_ok-toggle.ensures.ok c.in_ok-run.ensures.linked c.in_ok-run.ensures.stands in
    violation_of c.args.design.now c.args.claim.now c.args.stimulus.now v is c.in-Some.ensures

pub returns-clause-showable : goal.returns-clause-showable
returns-clause-showable c =
    let v : Violation = record { run = c.in_ok-run.run'; toggle = c.in-Violated.toggle; judged = c.in-Some.judged } in
    let is = replayed c.args.design.now c.args.claim.now c.args.stimulus.now c.in_ok-toggle.field-0 c.in-Violated.toggle c.in_ok-run.run' c.in-Violated.is
    c.in_ok-toggle.ensures.ok c.in_ok-run.ensures.linked c.in_ok-run.ensures.stands in
    showable c.args.design.now c.args.claim.now c.args.stimulus.now v is c.in-Some.ensures
