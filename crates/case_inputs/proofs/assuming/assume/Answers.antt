use Rattle.std.proofs.Common.{sym, subst}
use Rattle.net_model.specs.Netlist.{IsSound}
use Rattle.case_inputs.proofs.Sounding.{assumed_is_sound}
use Rattle.case_inputs.proofs.assuming.assume.Goals as goal

pub returns-clause-sound : goal.returns-clause-sound
returns-clause-sound c =
    subst IsSound (sym c.in_ok-under.ensures)
    (assumed_is_sound c.args.design.now c.args.fixed.now c.args.assumed.now c.requires.sound c.requires.fixed c.in_ok-check_room.ensures.ok)
