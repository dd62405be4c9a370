use Rattle.net_link.proofs.Listed.{same_cell}
use Rattle.net_link.proofs.cells.cell_name.Goals as goal

pub returns : goal.returns
returns c = same_cell _ _ _ _ _ _ _ _ c.in_ok-name.ensures c.reg_of.ensures c.in_ok-outs.ensures c.in_ok-pins.ensures
