use Rattle.std.proofs.Common.{◌<◌, length}
use Rattle.net_model.specs.Netlist.{held_inputs}
use Rattle.net_model.proofs.Marking.{once_each}
use Rattle.net_model.proofs.checks.check_held.Goals as goal

pub returns-in-None-clause-ok : goal.returns-in-None-clause-ok
returns-in-None-clause-ok c =
    λ i lt. let inside : i < length c.in_ok-marks.marks = rw (c.in_ok-marks.ensures.len, c.len.ensures) lt in
    once_each (held_inputs c.args.design.now) c.in_ok-marks.marks c.mark_held.new.marks i inside (c.in_ok-marks.ensures.each i) c.in-None.ensures
