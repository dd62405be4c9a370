use Rattle.claim_monitor.proofs.RunsExist.{run_exists}
use Rattle.claim_monitor.proofs.laws.each_has_a_run.Goals as goal

pub returns : goal.returns
returns c = λ any ins cycles regs count some. run_exists c.args.design.now any ins cycles c.requires regs count some
