use Rattle.link_design.proofs.Rowed.{tree_rows_are}
use Rattle.link_design.proofs.tree_rows.clock_rows.Goals as goal

pub returns : goal.returns
returns c =
    tree_rows_are c.args.circuit.now c.in_ok-clock.clock.tree c.in_ok-clock.clock.odd c.in_ok-clock.clock.lost c.in_ok-all.all c.in_ok-even.even
    c.in_ok-clock.ensures.tree c.in_ok-all.ensures c.in_ok-even.ensures
