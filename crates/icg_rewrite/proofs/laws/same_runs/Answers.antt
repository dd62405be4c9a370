use Rattle.icg_rewrite.proofs.Running.{forth, back}
use Rattle.icg_rewrite.proofs.laws.same_runs.Goals as goal

pub returns : goal.returns
returns c =
    record {
      forth = λ run. forth c.args.gated.now run c.requires;
      back = λ other. back c.args.gated.now other c.requires;
    }
