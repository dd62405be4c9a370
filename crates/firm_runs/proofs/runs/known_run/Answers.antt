use Rattle.std.proofs.Common.{◌+◌, List, subst, sym}
use Rattle.firm_runs.specs.Cycles3.{AreKnownInputs}
use Rattle.firm_runs.proofs.Runs3.{RunSoFar3, run_more3}
use Rattle.firm_runs.specs.declared.cycles.Cycle3.{Cycle3}
use Rattle.firm_runs.proofs.runs.known_run.Goals as goal

pub settled3-requires-clause-bits : goal.settled3-requires-clause-bits
settled3-requires-clause-bits c = c.loop-t.invariant.bits_len

pub loop-t-preserved : goal.loop-t-preserved
loop-t-preserved c =
    let d = c.args.design.now in
    let free = c.args.free.now in
    let s = c.args.stimulus.now in
    let row = c.item.result.now in
    subst (λ (run : List Cycle3). RunSoFar3 d free s run c.in_ok-bits-2.bits (c.loop-t.t + 1)) (sym c.in_ok-push.ensures.ok)
    (run_more3 d free s c.loop-t.run c.loop-t.bits c.in_ok-bits-2.bits row c.loop-t.t c.in_ok-cycle.cycle c.item.ensures c.in_ok-cycle.ensures.bits
    (subst (AreKnownInputs d free c.loop-t.t row) (sym c.in_ok-cycle.ensures.ins) c.in_ok-ins.ensures) c.in_ok-cycle.ensures.settled
    c.in_ok-bits-2.ensures c.loop-t.invariant)
