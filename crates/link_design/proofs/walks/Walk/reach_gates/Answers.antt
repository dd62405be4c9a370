use Rattle.std.proofs.Common.{rules, arith}
use Rattle.link_design.proofs.Walking.{reached_more}
use Rattle.link_design.proofs.walks.Walk.reach_gates.Goals as goal

pub loop-gate-preserved : goal.loop-gate-preserved
loop-gate-preserved c = record {
  is =
      reached_more c.args.branch c.past_buffer.result c.args.self.now c.loop-gate.self c.reach.new.self c.args.gates.now c.loop-gate.gate-index
      c.gate-item.result (omega arith) c.gate-item.is c.past_buffer.ensures c.loop-gate.invariant.is c.in_ok-reach.ensures;
  tree_len = search rules;
  odd_len = search rules;
  above_len = search rules;
  lost_len = search rules;
}
