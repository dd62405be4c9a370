use Rattle.std.proofs.Common.{◌∙◌, ap}
use Rattle.net_model.specs.LaneBits.{lane_row, lane_cycle}
use Rattle.net_model.proofs.Unique.{settled_same, settled_made}
use Rattle.net_model.specs.declared.cycles.Cycle.{Cycle}
use Rattle.net_sim.proofs.LaneSettling.{length-lane_row, kept_lane, gates_lane}
use Rattle.net_sim.proofs.lane_settling.settle64.Goals as goal

settled : goal.returns-clause-settled
settled c =
    λ i lt.
    let d = c.args.design.now in
    let bits = c.args.bits.now in
    let ins = c.args.ins.now in
    let second = c.put_regs.new.nets in
    let nets = c.settle_gates.new.nets in
    settled_made d (lane_row i bits) (lane_row i ins) (lane_row i c.put_inputs.new.nets) (lane_row i second) (lane_row i nets)
    (length-lane_row i bits ∙ c.requires.bits) (length-lane_row i ins ∙ c.requires.ins) (length-lane_row i nets ∙ c.settle_gates.ensures.len)
    (c.put_inputs.ensures.shown i lt) (c.put_regs.ensures.kept i lt) (c.put_regs.ensures.shown i lt)
    (λ n has. kept_lane i second nets n lt (c.settle_gates.ensures.sources n has))
    (gates_lane d i nets c.requires.sound lt c.settle_gates.ensures.gates)

pub returns-clause-settled : goal.returns-clause-settled
returns-clause-settled c = settled c

pub returns-clause-only : goal.returns-clause-only
returns-clause-only c =
    λ i lt other s bits ins.
    let here = lane_cycle i c.args.bits.now c.args.ins.now c.settle_gates.new.nets in
    ap (λ (x : Cycle). x.nets) (settled_same c.args.design.now other here c.requires.sound s (settled c i lt) bits ins)
