use Rattle.std.proofs.Common.{◌≡◌, length}
use Rattle.std.specs.Prelude.{All}
use Rattle.shown_runs.proofs.late_layers.blank_rows.Given as goal

abbrev pub invariant-loop : goal.invariant-loop
invariant-loop g l = record {
  count : length l.rows ≡ l.counter;
  lens : All (λ row. length row ≡ l.design.nets) l.rows;
}
