use Rattle.std.proofs.Common.{◌≡◌, ◌<◌, ℕ, length}
use Rattle.net_model.specs.Cycles.{bit_at}
use Rattle.query_model.specs.Reads.{bit_key}
use Rattle.cnf_encode.specs.FreeBits.{value_or_zero}
use Rattle.cnf_encode.proofs.free_bits.put_first_bits.Given as goal

abbrev pub invariant-loop-r : goal.invariant-loop-r
invariant-loop-r l = record {
  count : length l.bits ≡ length l.design.regs;
  each : (q : ℕ) → q < l.r → bit_at l.bits q ≡ value_or_zero l.frames l.model.values (bit_key l.design 0 q);
}
