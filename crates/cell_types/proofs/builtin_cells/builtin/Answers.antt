use Rattle.cell_types.proofs.Lawful.{builtin_is_lawful}
use Rattle.cell_types.proofs.builtin_cells.builtin.Goals as goal

pub returns-clause-lawful : goal.returns-clause-lawful
returns-clause-lawful c = rw c.in_ok-cells.ensures builtin_is_lawful
