use Rattle.std.proofs.Common.{◌≡◌, ℕ, ◌<◌, length}
use Rattle.net_model.specs.Cycles.{bit_at, capture}
use Rattle.net_model.specs.declared.claims.End.TheVariants.{Reg}
use Rattle.net_sim.proofs.runs.next_bits.Given as goal

abbrev pub invariant-loop-r : goal.invariant-loop-r
invariant-loop-r l = record {
  count : length l.bits ≡ l.r;
  each : (q : ℕ) → q < l.r → bit_at l.bits q ≡ capture l.design (Reg q) l.cycle;
}
