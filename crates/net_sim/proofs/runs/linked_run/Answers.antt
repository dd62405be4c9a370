use Rattle.std.proofs.Common.{◌≡◌, ◌+◌, List, length, arith, subst, sym}
use Rattle.net_model.specs.declared.cycles.Cycle.{Cycle}
use Rattle.net_sim.proofs.Running.{RunSoFar, run_more, run_linked, run_stands}
use Rattle.net_sim.proofs.runs.linked_run.Goals as goal

pub loop-t-preserved : goal.loop-t-preserved
loop-t-preserved c =
    let d = c.args.design.now in
    let s = c.args.stimulus.now in
    subst (λ (run : List Cycle). RunSoFar d s run c.in_ok-bits-2.bits (c.loop-t.t + 1)) (sym c.in_ok-push.ensures.ok)
    (run_more d s c.loop-t.run c.loop-t.bits c.in_ok-bits-2.bits c.item.result.now c.loop-t.t c.in_ok-cycle.cycle c.item.ensures c.in_ok-cycle.ensures.bits
    c.in_ok-cycle.ensures.ins c.in_ok-cycle.ensures.settled c.in_ok-bits-2.ensures c.loop-t.invariant)

pub returns-clause-linked : goal.returns-clause-linked
returns-clause-linked c =
    let d = c.args.design.now in
    let s = c.args.stimulus.now in
    let all : c.loop-t.t ≡ length s.inputs = omega arith in
    run_linked d s c.loop-t.run c.loop-t.bits c.requires.linkable (subst (RunSoFar d s c.loop-t.run c.loop-t.bits) all c.loop-t.invariant)

pub returns-clause-stands : goal.returns-clause-stands
returns-clause-stands c =
    let d = c.args.design.now in
    let s = c.args.stimulus.now in
    let all : c.loop-t.t ≡ length s.inputs = omega arith in
    run_stands d s c.loop-t.run c.loop-t.bits (subst (RunSoFar d s c.loop-t.run c.loop-t.bits) all c.loop-t.invariant)
