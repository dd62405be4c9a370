use Rattle.std.proofs.Common.{◌≡◌, ◌+◌, ◌++◌, suc, arith, append-nil, append_assoc, sym, ap}
use Rattle.vcd_text.specs.Changes.{cycles_text, cycle_text}
use Rattle.vcd_text.proofs.changes.push_cycles.Goals as goal

pub loop-cycle-init : goal.loop-cycle-init
unfolding cycles_text
loop-cycle-init c = sym (append-nil c.args.text.now.items)

pub loop-cycle-preserved : goal.loop-cycle-preserved
unfolding cycles_text
loop-cycle-preserved c =
    let e : c.loop-cycle.cycle + 1 ≡ suc c.loop-cycle.cycle = omega arith in
    let more : cycles_text c.args.wave.now (c.loop-cycle.cycle + 1) ≡ cycles_text c.args.wave.now c.loop-cycle.cycle ++ cycle_text c.args.wave.now c.loop-cycle.cycle
    = ap (cycles_text c.args.wave.now) e in
    let pushed = c.in_ok-push_cycle.ensures in
    rw (pushed, c.loop-cycle.invariant, more)
    (append_assoc c.args.text.now.items (cycles_text c.args.wave.now c.loop-cycle.cycle) (cycle_text c.args.wave.now c.loop-cycle.cycle))
