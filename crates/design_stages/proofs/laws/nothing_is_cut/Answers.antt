use Rattle.design_stages.proofs.Whole.{then_whole, told_of_whole}
use Rattle.design_stages.specs.Designs.{Settles, SettlesIn, LinksTo, LinksIn, Designs, DesignsIn}
use Rattle.design_stages.proofs.laws.nothing_is_cut.Goals as goal

pub returns-clause-settles : goal.returns-clause-settles
unfolding Settles
returns-clause-settles c = λ resets found. then_whole c.args.texts.now (λ cut. SettlesIn c.args.texts.now cut.source resets) found c.requires

pub returns-clause-links : goal.returns-clause-links
unfolding LinksTo
returns-clause-links c = λ found. then_whole c.args.texts.now (λ cut. LinksIn c.args.texts.now cut c.args.reset.now) found c.requires

pub returns-clause-designs : goal.returns-clause-designs
unfolding Designs
returns-clause-designs c = λ found. then_whole c.args.texts.now (λ cut. DesignsIn c.args.texts.now cut c.args.reset.now c.args.judging) found c.requires

pub returns-clause-told : goal.returns-clause-told
unfolding Designs
returns-clause-told c = λ d has.
    told_of_whole c.args.texts.now c.args.reset.now c.args.judging d c.requires
    ((then_whole c.args.texts.now (λ cut. DesignsIn c.args.texts.now cut c.args.reset.now c.args.judging) _ c.requires).0 has)
