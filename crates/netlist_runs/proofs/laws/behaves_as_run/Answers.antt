use Rattle.netlist_runs.proofs.Linked.{linked_runs, linked_driven}
use Rattle.netlist_runs.proofs.laws.behaves_as_run.Goals as goal

pub returns-clause-run : goal.returns-clause-run
returns-clause-run c = linked_runs c.args.source.now c.args.library.now c.args.options.now c.args.linked.now

pub returns-clause-driven : goal.returns-clause-driven
returns-clause-driven c = linked_driven c.args.source.now c.args.library.now c.args.options.now c.args.linked.now
