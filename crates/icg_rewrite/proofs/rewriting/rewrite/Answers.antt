use Rattle.std.proofs.Common.{sym, subst}
use Rattle.net_model.specs.Netlist.{IsSound}
use Rattle.icg_rewrite.proofs.Sounding.{rewritten_is_sound}
use Rattle.icg_rewrite.proofs.rewriting.rewrite.Goals as goal

pub returns-clause-sound : goal.returns-clause-sound
returns-clause-sound c =
    subst IsSound (sym c.in_ok-with_enables.ensures)
    (rewritten_is_sound c.args.gated.now c.requires c.in_ok-check_room.ensures.ok)
