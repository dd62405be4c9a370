use Rattle.link_design.proofs.Parted.{reads_below}
use Rattle.link_cuts.proofs.Cutted.{all_drivers_below}
use Rattle.link_cuts.proofs.cuts.net_marks.Goals as goal

pub row_of-requires : goal.row_of-requires
row_of-requires c = rw c.in_ok-drivers.ensures (all_drivers_below c.args.circuit.now c.requires)

pub row_of-requires-2 : goal.row_of-requires-2
row_of-requires-2 c = rw c.in_ok-reads.ensures (reads_below c.args.circuit.now c.requires)
