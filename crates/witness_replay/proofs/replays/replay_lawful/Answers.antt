use Rattle.std.proofs.Common.{List, subst}
use Rattle.net_model.proofs.OneRun.{has_one_run}
use Rattle.net_model.specs.declared.cycles.Cycle.{Cycle}
use Rattle.net_sim.proofs.Running.{lawful_linkable, lawful_run}
use Rattle.witness_replay.specs.Replays.{IsFirstViolation}
use Rattle.witness_replay.proofs.replays.replay_lawful.Goals as goal

pub linked_run-requires-clause-linkable : goal.linked_run-requires-clause-linkable
linked_run-requires-clause-linkable c = lawful_linkable c.args.design.now c.args.stimulus.now c.requires.lawful

pub returns : goal.returns
returns c =
    let d = c.args.design.now in
    let s = c.args.stimulus.now in
    let one = has_one_run d s c.requires.sound c.requires.lawful in
    let from_reset = lawful_run d s c.in_ok-run.run' c.requires.lawful c.in_ok-run.ensures.linked c.in_ok-run.ensures.stands in
    record {
      lawful = c.requires.lawful;
      one = one;
      first = subst (λ (run : List Cycle). IsFirstViolation d c.args.claim.now run c.first_violation.result)
          (one.only c.in_ok-run.run' from_reset c.in_ok-run.ensures.stands) c.first_violation.ensures;
    }
