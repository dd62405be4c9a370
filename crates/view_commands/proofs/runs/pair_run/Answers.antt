use Rattle.view_commands.proofs.Claims.{fits_at}
use Rattle.view_commands.proofs.runs.pair_run.Goals as goal

pub violation_of-requires-clause-fits : goal.violation_of-requires-clause-fits
violation_of-requires-clause-fits c =
    let designed = c.args.designed.now in
    fits_at designed.linked.design designed.selected.claims c.requires.design.fit c.in_ok-place.place c.item-claim.result.now c.item-claim.ensures

pub returns : goal.returns
returns c =
    let designed = c.args.designed.now in
    let claim = c.item-claim.result.now in
    record {
      sound = c.requires.design.sound;
      claim = claim;
      at = c.item-claim.ensures;
      fits = fits_at designed.linked.design designed.selected.claims c.requires.design.fit c.in_ok-place.place claim c.item-claim.ensures;
      violates = c.in_ok-violation.ensures.found;
      showable = c.in_ok-violation.ensures.showable;
    }
