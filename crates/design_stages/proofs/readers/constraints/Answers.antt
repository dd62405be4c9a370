use Rattle.design_stages.proofs.Multipliers.{has_multipliers}
use Rattle.design_stages.proofs.Refusing.{constraints_refused}
use Rattle.design_stages.proofs.readers.constraints.Goals as goal

pub returns-in-Ok-clause-multipliers : goal.returns-in-Ok-clause-multipliers
returns-in-Ok-clause-multipliers c = has_multipliers c.args.form.now c.args.text.now c.in-Ok.script c.in-Ok.ensures.value

pub returns-in_ok-sdc_line-in-Err-clause-found : goal.returns-in_ok-sdc_line-in-Err-clause-found
returns-in_ok-sdc_line-in-Err-clause-found c =
    constraints_refused c.args.form.now c.args.text.now c.in_ok-sdc_line-in-Err.field-0.items c.in-Err.fault c.in-Err.ensures.value c.in_ok-sdc_line-in-Err.ensures
