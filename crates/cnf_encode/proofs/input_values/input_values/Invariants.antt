use Rattle.std.proofs.Common.{◌≡◌, ◌-◌, ℕ, length, drop}
use Rattle.query_model.specs.Defined.{set_in}
use Rattle.cnf_encode.proofs.Valued.{value_at}
use Rattle.cnf_encode.proofs.input_values.input_values.Given as goal

abbrev pub invariant-loop-i : goal.invariant-loop-i
invariant-loop-i l = record {
  len : length l.values ≡ l.inputs;
  values : (i : ℕ) → value_at l.values i ≡ set_in (drop (l.count - l.i) l.settings) i;
}
