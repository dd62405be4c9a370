use Rattle.std.proofs.Common.{arith}
use Rattle.claim_monitor.proofs.LateLits.{base_lits_none, base_lits_more}
use Rattle.claim_monitor.proofs.lates.put_base_row.Goals as goal

pub loop-n-init : goal.loop-n-init
loop-n-init c = base_lits_none c.args.sets.now c.args.layer c.args.base.now c.args.rows.now

pub loop-n-preserved : goal.loop-n-preserved
loop-n-preserved c =
    rw c.put_in.ensures (base_lits_more c.args.sets.now c.args.layer c.args.base.now c.args.rows.now c.loop-n.rows c.loop-n.n c.base_literal-literal.result
    c.requires.rows (omega arith) c.requires.lens c.base_literal-literal.ensures c.loop-n.invariant)
