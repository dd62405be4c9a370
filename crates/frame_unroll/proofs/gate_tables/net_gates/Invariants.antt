use Rattle.std.proofs.Common.{◌≡◌, ◌-◌, ℕ, length, drop}
use Rattle.frame_unroll.specs.Origins.{gate_of}
use Rattle.frame_unroll.specs.Found.{gate_at}
use Rattle.frame_unroll.proofs.gate_tables.net_gates.Given as goal

abbrev pub invariant-loop-i : goal.invariant-loop-i
invariant-loop-i l = record {
  len : length l.table ≡ l.design.nets;
  gates : (n : ℕ) → gate_at l.table n ≡ gate_of (drop (l.count - l.i) l.design.gates) (l.count - l.i) n;
}
