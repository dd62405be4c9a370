use Rattle.rup_check.proofs.NoFault.{last_empty}
use Rattle.rup_check.proofs.checks.ends_empty.Goals as goal

pub returns-in-Some : goal.returns-in-Some
returns-in-Some c = last_empty c.args.steps.now c.in-Some.step.now c.as_slice.result.now c.is_empty.result c.in-Some.ensures.value c.as_slice.ensures
    c.is_empty.ensures
