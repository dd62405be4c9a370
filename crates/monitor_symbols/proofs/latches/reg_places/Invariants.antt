use Rattle.std.proofs.Common.{◌≡◌, ◌-◌, ◌<◌, ℕ, length, drop}
use Rattle.std.specs.Prelude.{find, slice_get, slice_index_or}
use Rattle.linked_types.specs.Usable.{is_reg}
use Rattle.monitor_symbols.proofs.latches.reg_places.Given as goal

-- each register whose cell is among the last k ones has its place
abbrev pub invariant-loop-k : goal.invariant-loop-k
invariant-loop-k l = record {
  len : length l.places ≡ l.count;
  each : (r : ℕ) → r < l.count → slice_get l.cells (slice_index_or l.places r (length l.cells)) ≡ find (is_reg r) (drop (l.total - l.k) l.cells);
}
