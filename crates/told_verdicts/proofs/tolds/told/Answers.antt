use Rattle.std.proofs.Common.{◌∙◌, sym}
use Rattle.firm_runs.proofs.Deciding3.{true_false}
use Rattle.told_verdicts.proofs.Telling.{told_as_they_are, all_right}
use Rattle.told_verdicts.proofs.tolds.told.Goals as goal

pub returns-then-not-leaves_open-clause-right : goal.returns-then-not-leaves_open-clause-right
returns-then-not-leaves_open-clause-right c =
    let d = c.args.design.now in
    let free = c.args.free.now in
    let claims = c.args.claims.now in
    all_right d free claims c.args.verdicts c.args.verdicts c.requires.sound c.requires.fit
    (told_as_they_are d free claims c.args.verdicts (λ open_. true_false (sym (c.leaves_open.ensures.1 open_) ∙ c.if-not-leaves_open.true)))

pub returns-clause-right : goal.returns-clause-right
returns-clause-right c =
    all_right c.args.design.now c.args.free.now c.args.claims.now c.args.verdicts c.in_ok-told.told c.requires.sound c.requires.fit c.in_ok-told.ensures
