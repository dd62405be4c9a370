use Rattle.case_inputs.proofs.Same.{nothing_assumed}
use Rattle.case_inputs.proofs.laws.nothing_assumed.Goals as goal

pub returns : goal.returns
returns c = nothing_assumed c.args.design.now
