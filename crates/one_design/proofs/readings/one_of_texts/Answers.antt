use Rattle.one_design.proofs.Reading.{texts_one}
use Rattle.one_design.proofs.readings.one_of_texts.Goals as goal

pub returns : goal.returns
returns c = texts_one c.args.netlist.now c.args.cells.now c.args.constraints.now c.args.forms.now c.args.reset.now c.args.judging
