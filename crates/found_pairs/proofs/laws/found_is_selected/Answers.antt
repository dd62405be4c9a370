use Rattle.found_pairs.proofs.Selecting.{selects_found}
use Rattle.found_pairs.proofs.laws.found_is_selected.Goals as goal

pub returns : goal.returns
returns c = selects_found c.args.linked.now c.args.options.now c.args.detected.now c.args.hold c.requires.usable c.requires.range c.requires.found
