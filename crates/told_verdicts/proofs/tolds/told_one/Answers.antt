use Rattle.told_verdicts.proofs.Telling.{lawful_from_run}
use Rattle.told_verdicts.proofs.tolds.told_one.Goals as goal

pub shows_firm-requires-clause-lawful : goal.shows_firm-requires-clause-lawful
shows_firm-requires-clause-lawful c =
    let witness = c.requires.witnessed c.in-Refuted.offset c.in-Refuted.stimulus c.in-Refuted.is in
    lawful_from_run c.args.design.now c.in-Refuted.stimulus witness.run witness.from_reset witness.stands
