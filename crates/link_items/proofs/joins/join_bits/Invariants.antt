use Rattle.std.proofs.Common.{◌≡◌, length, drop}
use Rattle.link_defs.specs.Flatten.{join_bits}
use Rattle.link_items.proofs.joins.join_bits.Given as goal

abbrev pub invariant-loop-k : goal.invariant-loop-k
invariant-loop-k l = record {
  len : length l.nets ≡ length l.fn.nets;
  told : join_bits l.outer l.fn.nets l.bits l.wires ≡ join_bits l.outer l.nets (drop l.k l.bits) (drop l.k l.wires);
}
