use Rattle.one_design.proofs.Fixing.{one_settings}
use Rattle.one_design.proofs.settings.one_settings.Goals as goal

pub returns : goal.returns
returns c = one_settings c.args.script.now c.args.inputs.now c.args.resets.now c.args.clock.now
