use Rattle.net_model.specs.Faults.{RegPins, OfReg}
use Rattle.net_model.proofs.checks.check_reg.Goals as goal

pub returns-in-Some-clause-err : goal.returns-in-Some-clause-err
returns-in-Some-clause-err c = RegPins c.args.r c.item-reg.result.now c.item-reg.ensures (rw (← c.len.ensures) c.in-Some.ensures)

pub returns-in-Some-reg_beyond-clause-err : goal.returns-in-Some-reg_beyond-clause-err
returns-in-Some-reg_beyond-clause-err c = OfReg c.args.r c.item-reg.result.now c.item-reg.ensures c.in-Some-reg_beyond.ensures
