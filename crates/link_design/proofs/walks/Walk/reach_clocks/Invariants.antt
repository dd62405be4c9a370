use Rattle.std.proofs.Common.{◌≡◌, take, length}
use Rattle.std.specs.List.{fold}
use Rattle.link_design.specs.Walks.{clock_reached}
use Rattle.link_design.proofs.walks.Walk.reach_clocks.Given as goal

abbrev pub invariant-loop-net : goal.invariant-loop-net
invariant-loop-net l = record {
  is : l.self ≡ fold clock_reached l.fn.self (take l.net-index l.clocks);
  tree_len : length l.self.tree ≡ length l.fn.self.tree;
  odd_len : length l.self.odd ≡ length l.fn.self.odd;
  above_len : length l.self.above ≡ length l.fn.self.above;
  lost_len : length l.self.lost ≡ length l.fn.self.lost;
}
