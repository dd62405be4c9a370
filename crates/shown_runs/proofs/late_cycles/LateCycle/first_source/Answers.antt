use Rattle.shown_runs.proofs.Rests.{source_at}
use Rattle.shown_runs.proofs.late_cycles.LateCycle.first_source.Goals as goal

pub returns-in-Some : goal.returns-in-Some
returns-in-Some c =
    source_at c.args.self.now c.args.layer c.args.reader c.args.ins.now c.loop-place.place c.pin-pin.result c.at.result c.in-Some.source
    c.pin-pin.ensures c.at.ensures c.in-Some.ensures
