use Rattle.std.proofs.Common.{◌≡◌, length}
use Rattle.std.specs.Prelude.{All}
use Rattle.firm_runs.proofs.bads.blank_rows.Given as goal

abbrev pub invariant-loop : goal.invariant-loop
invariant-loop l = record {
  count : length l.rows ≡ l.counter;
  lens : All (λ row. length row ≡ l.design.nets) l.rows;
}
