use Rattle.link_design.proofs.Walking.{clocks_walk}
use Rattle.link_design.proofs.walks.Walk.at_clocks.Goals as goal

pub returns : goal.returns
returns c =
    rw (c.in_ok-reach_clocks.ensures, c.as_slice.ensures) (clocks_walk c.args.circuit.now c.in_ok-walk.walk c.requires c.in_ok-walk.ensures.nets
    c.in_ok-walk.ensures.rows)
