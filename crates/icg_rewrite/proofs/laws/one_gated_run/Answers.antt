use Rattle.icg_rewrite.proofs.Showing.{has_one_gated_run}
use Rattle.icg_rewrite.proofs.laws.one_gated_run.Goals as goal

pub returns : goal.returns
returns c = has_one_gated_run c.args.gated.now c.args.stimulus.now c.requires.are c.requires.room c.requires.lawful
