use Rattle.std.proofs.Common.{◌∙◌}
use Rattle.design_stages.proofs.Topping.{top_named}
use Rattle.design_stages.proofs.tellings.top_name.Goals as goal

pub returns : goal.returns
returns c = c.in_ok-name.ensures ∙ top_named c.args.source.now c.in_ok-place.place c.item.result.now c.in_ok-place.ensures c.item.ensures
