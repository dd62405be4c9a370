use Rattle.shown_runs.proofs.Rests.{any_at_reg, any_at_output}
use Rattle.shown_runs.proofs.late_cycles.LateCycle.end_source.Goals as goal

pub returns-in-Reg : goal.returns-in-Reg
returns-in-Reg c =
    any_at_reg c.args.self.now c.len-layer.result c.in-Reg.r c.item.result.now c.first_source.result c.in-Reg.is c.item.ensures c.len-layer.ensures
    c.first_source.ensures

pub returns-in-Output : goal.returns-in-Output
returns-in-Output c =
    any_at_output c.args.self.now c.len-layer.result c.in-Output.o c.at.result c.source.result c.in-Output.is c.at.ensures c.len-layer.ensures
    c.source.ensures
