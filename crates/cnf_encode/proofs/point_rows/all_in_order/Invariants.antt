use Rattle.std.proofs.Common.{◌≡◌, ◌<◌, ℕ, [], map, length, slice_index_or}
use Rattle.cnf_encode.specs.Placed.{IsInOrder}
use Rattle.cnf_encode.proofs.point_rows.all_in_order.Given as goal

abbrev pub invariant-loop-row : goal.invariant-loop-row
invariant-loop-row l = record {
  count : length l.rows ≡ l.row-index;
  each : (c : ℕ) → c < l.row-index → IsInOrder (slice_index_or (map (λ row. row.items) l.found) c []) (slice_index_or l.rows c []);
}
