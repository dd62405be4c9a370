use Rattle.cell_lib.proofs.TextLemmas.{groups_refused}
use Rattle.cell_lib.proofs.readers.groups_of.Goals as goal

pub returns-in-Err-clause-refused : goal.returns-in-Err-clause-refused
returns-in-Err-clause-refused c = rw c.told.ensures (groups_refused c.args.text.now c.in-Err.fault c.in-Err.ensures)
