use Rattle.one_design.proofs.Finding.{one_inputs}
use Rattle.one_design.proofs.designs.one_inputs.Goals as goal

pub returns : goal.returns
returns c = one_inputs c.args.source.now
