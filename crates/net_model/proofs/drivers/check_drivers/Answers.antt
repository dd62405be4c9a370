use Rattle.net_model.proofs.Driving.{one_driver}
use Rattle.net_model.proofs.drivers.check_drivers.Goals as goal

pub returns-in-None-clause-one : goal.returns-in-None-clause-one
returns-in-None-clause-one c =
    one_driver c.args.design.now c.mark_gates.new.marks c.in_ok-mark_gates.ensures.len c.in_ok-mark_gates.ensures.driven c.in-None.ensures
