use Rattle.std.proofs.Common.{arith}
use Rattle.firm_runs.proofs.Settled3.{ChangesRow-again, inputs_more3}
use Rattle.firm_runs.proofs.settling.put_inputs.Goals as goal

pub loop-i-preserved : goal.loop-i-preserved
loop-i-preserved c =
    record {
      kept = ChangesRow-again 0 c.args.rows.now c.loop-i.rows c.put_late_input.new.rows c.loop-i.invariant.kept c.put_late_input.ensures.kept;
      shown = inputs_more3 c.args.design.now c.args.ins.now c.loop-i.rows c.put_late_input.new.rows c.loop-i.i c.at.result c.requires.sound
          (omega arith) c.at.ensures c.put_late_input.ensures.late c.put_late_input.ensures.others c.loop-i.invariant.shown;
    }
