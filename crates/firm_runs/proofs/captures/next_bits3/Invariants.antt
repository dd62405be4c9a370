use Rattle.std.proofs.Common.{◌≡◌, ℕ, ◌<◌, length}
use Rattle.net_model.specs.declared.claims.End.TheVariants.{Reg}
use Rattle.firm_runs.specs.Cycles3.{tern_at, capture3}
use Rattle.firm_runs.proofs.captures.next_bits3.Given as goal

abbrev pub invariant-loop-r : goal.invariant-loop-r
invariant-loop-r l = record {
  count : length l.bits ≡ l.r;
  each : (q : ℕ) → q < l.r → tern_at l.bits q ≡ capture3 l.design (Reg q) l.cycle;
}
