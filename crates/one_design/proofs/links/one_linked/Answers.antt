use Rattle.one_design.proofs.Linking.{one_linked}
use Rattle.one_design.proofs.links.one_linked.Goals as goal

pub returns : goal.returns
returns c = one_linked c.args.cut.now c.args.library.now c.args.options.now
