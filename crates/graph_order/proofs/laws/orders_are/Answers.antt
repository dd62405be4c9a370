use Rattle.graph_order.proofs.Told.{order_right, order_loops}
use Rattle.graph_order.proofs.Ascending.{order_ascending}
use Rattle.graph_order.proofs.laws.orders_are.Goals as goal

pub returns-clause-right : goal.returns-clause-right
returns-clause-right c = λ order is. order_right c.args.needs.now order is

pub returns-clause-cycle : goal.returns-clause-cycle
returns-clause-cycle c = λ place is. order_loops c.args.needs.now place is

pub returns-clause-ascending : goal.returns-clause-ascending
returns-clause-ascending c = λ below. order_ascending c.args.needs.now below
