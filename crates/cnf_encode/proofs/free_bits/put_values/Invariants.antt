use Rattle.std.proofs.Common.{◌≡◌, ◌<◌, ℕ, length}
use Rattle.std.specs.Prelude.{slice_index}
use Rattle.net_model.specs.Cycles.{bit_at}
use Rattle.query_model.specs.Keys.{key}
use Rattle.cnf_encode.specs.FreeBits.{value_or_zero}
use Rattle.cnf_encode.proofs.free_bits.put_values.Given as goal

abbrev pub invariant-loop-i : goal.invariant-loop-i
invariant-loop-i l = record {
  len : length l.ins ≡ length l.design.inputs;
  each : (j : ℕ) → j < l.i → bit_at l.ins j ≡ value_or_zero l.frames l.model.values (key l.cycle 0 0 (slice_index l.design.inputs j));
}
