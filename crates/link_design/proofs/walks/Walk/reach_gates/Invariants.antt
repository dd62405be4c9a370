use Rattle.std.proofs.Common.{◌≡◌, take, length}
use Rattle.std.specs.List.{fold}
use Rattle.link_design.specs.Walks.{gate_reached}
use Rattle.link_design.proofs.walks.Walk.reach_gates.Given as goal

abbrev pub invariant-loop-gate : goal.invariant-loop-gate
invariant-loop-gate l = record {
  is : l.self ≡ fold (gate_reached l.branch) l.fn.self (take l.gate-index l.gates);
  tree_len : length l.self.tree ≡ length l.fn.self.tree;
  odd_len : length l.self.odd ≡ length l.fn.self.odd;
  above_len : length l.self.above ≡ length l.fn.self.above;
  lost_len : length l.self.lost ≡ length l.fn.self.lost;
}
