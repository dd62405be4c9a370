use Rattle.link_circuit.proofs.Scoped.{table_of_none}
use Rattle.link_circuit.proofs.tables.NetTable.new.Goals as goal

pub returns : goal.returns
returns c = λ marks. rw (c.new.ensures, c.new-2.ensures) (table_of_none marks)
