use Rattle.one_design.proofs.Reading.{netlist_one, cells_one, constraints_one}
use Rattle.one_design.proofs.readings.one_text.Goals as goal

pub returns-clause-netlist : goal.returns-clause-netlist
returns-clause-netlist c = netlist_one c.args.forms.now.netlist c.args.text.now

pub returns-clause-cells : goal.returns-clause-cells
returns-clause-cells c = cells_one c.args.text.now

pub returns-clause-constraints : goal.returns-clause-constraints
returns-clause-constraints c = constraints_one c.args.forms.now.script c.args.text.now
