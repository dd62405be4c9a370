use Rattle.std.proofs.Common.{◌∙◌, ◌-◌, ◌<◌, Some, arith, length, length-set}
use Rattle.net_model.proofs.Settling.{All-at}
use Rattle.net_model.specs.Netlist.{IsGateInRange}
use Rattle.frame_unroll.proofs.GateTables.{gates_back}
use Rattle.frame_unroll.proofs.gate_tables.net_gates.Goals as goal

pub loop-i-preserved : goal.loop-i-preserved
loop-i-preserved c =
    let d = c.args.design.now in
    let k = c.len-count.result - 1 - c.loop-i.i in
    let gate = c.item.result.now in
    let range = All-at (IsGateInRange d) d.gates k gate c.item.ensures c.requires.in_range.gates in
    let low : gate.out < length c.loop-i.table = omega (arith, range.out, c.loop-i.invariant.len) in
    rw c.put.ensures (record {
      len = length-set c.loop-i.table gate.out (Some k) ∙ c.loop-i.invariant.len;
      gates = gates_back d.gates c.loop-i.table c.len-count.result c.loop-i.i gate c.loop-i-test.true c.item.ensures low c.loop-i.invariant.gates;
    })
