use Rattle.case_inputs.proofs.Running.{forth, back}
use Rattle.case_inputs.proofs.laws.assumed_runs.Goals as goal

pub returns : goal.returns
returns c =
    record {
      forth = λ run. forth c.args.design.now c.args.fixed.now c.args.assumed.now run c.requires.sound c.requires.fixed;
      back = λ run. back c.args.design.now c.args.fixed.now c.args.assumed.now run c.requires.sound c.requires.fixed;
    }
