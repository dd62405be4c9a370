use Rattle.cnf_encode.proofs.Running.{linkable, is_read_back}
use Rattle.cnf_encode.proofs.Answering.{run_answers, made_some}
use Rattle.cnf_encode.proofs.runs.read_stimulus.Goals as goal

pub returns-clause-linkable : goal.returns-clause-linkable
returns-clause-linkable c =
    let problem = c.args.problem.now in
    linkable c.args.design.now problem.frames c.args.model.now.values problem.live problem.cycles c.in_ok-stimulus.stimulus
    (made_some c.args.design.now problem c.requires.sound c.requires.made) c.in_ok-stimulus.ensures

pub returns-clause-answers : goal.returns-clause-answers
returns-clause-answers c run linked stands coding q asks of =
    let d = c.args.design.now in
    let problem = c.args.problem.now in
    let values = c.args.model.now.values in
    let is = is_read_back d problem.frames values problem.live problem.cycles c.in_ok-stimulus.stimulus run c.in_ok-stimulus.ensures linked stands in
    (run_answers coding d q problem c.args.model.now run c.requires.sound asks of c.requires.model is).0
