use Rattle.cnf_encode.proofs.Running.{linkable, is_read_back, run_zeros}
use Rattle.cnf_encode.proofs.Answering.{run_answers, run_rails, made_some}
use Rattle.cnf_encode.proofs.runs.read_back.Goals as goal

pub linked_run-requires-clause-linkable : goal.linked_run-requires-clause-linkable
linked_run-requires-clause-linkable c =
    let problem = c.args.problem.now in
    linkable c.args.design.now problem.frames c.args.model.now.values problem.live problem.cycles c.in_ok-stimulus.stimulus
    (made_some c.args.design.now problem c.requires.sound c.requires.made) c.in_ok-stimulus.ensures

pub returns-clause-answers : goal.returns-clause-answers
returns-clause-answers c =
    let d = c.args.design.now in
    let problem = c.args.problem.now in
    let values = c.args.model.now.values in
    let is = is_read_back d problem.frames values problem.live problem.cycles c.in_ok-stimulus.stimulus c.in_ok-cycles.cycles c.in_ok-stimulus.ensures
    c.in_ok-cycles.ensures.linked c.in_ok-cycles.ensures.stands in
    λ coding q asks of. (run_answers coding d q problem c.args.model.now c.in_ok-cycles.cycles c.requires.sound asks of c.requires.model is).0

pub returns-clause-agrees : goal.returns-clause-agrees
returns-clause-agrees c =
    let d = c.args.design.now in
    let problem = c.args.problem.now in
    let values = c.args.model.now.values in
    let made = c.requires.made in
    let is = is_read_back d problem.frames values problem.live problem.cycles c.in_ok-stimulus.stimulus c.in_ok-cycles.cycles c.in_ok-stimulus.ensures
    c.in_ok-cycles.ensures.linked c.in_ok-cycles.ensures.stands in
    (run_answers made.coding d made.query problem c.args.model.now c.in_ok-cycles.cycles c.requires.sound made.asks made.is c.requires.model is).1

pub returns-clause-rails : goal.returns-clause-rails
returns-clause-rails c =
    let d = c.args.design.now in
    let problem = c.args.problem.now in
    let values = c.args.model.now.values in
    let is = is_read_back d problem.frames values problem.live problem.cycles c.in_ok-stimulus.stimulus c.in_ok-cycles.cycles c.in_ok-stimulus.ensures
    c.in_ok-cycles.ensures.linked c.in_ok-cycles.ensures.stands in
    λ coding q asks hazard of. run_rails coding d q problem c.args.model.now c.in_ok-cycles.cycles c.requires.sound asks hazard of c.requires.model is

pub returns-clause-zeros : goal.returns-clause-zeros
returns-clause-zeros c =
    let d = c.args.design.now in
    let problem = c.args.problem.now in
    let values = c.args.model.now.values in
    let is = is_read_back d problem.frames values problem.live problem.cycles c.in_ok-stimulus.stimulus c.in_ok-cycles.cycles c.in_ok-stimulus.ensures
    c.in_ok-cycles.ensures.linked c.in_ok-cycles.ensures.stands in
    run_zeros d problem.frames values problem.live problem.cycles c.in_ok-cycles.cycles is
