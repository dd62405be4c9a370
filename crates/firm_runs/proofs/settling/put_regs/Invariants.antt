use Rattle.std.proofs.Common.{◌≡◌, ℕ, ◌<◌}
use Rattle.std.specs.Prelude.{Contains}
use Rattle.net_model.specs.Layers.{row_at, net_at}
use Rattle.net_model.specs.RowChanges.{ChangesRow}
use Rattle.net_model.specs.declared.terns.Tern.TheVariants.{Zero}
use Rattle.net_model.specs.declared.claims.Start.TheVariants.{Reg as RegStart}
use Rattle.firm_runs.specs.Cycles3.{tern_at, ShowsValue}
use Rattle.firm_runs.proofs.settling.put_regs.Given as goal

abbrev pub invariant-loop-r : goal.invariant-loop-r
invariant-loop-r l = record {
  kept : ChangesRow 0 l.initial.rows l.rows;
  inputs : (n : ℕ) → Contains l.design.inputs n → net_at Zero l.rows 0 n ≡ net_at Zero l.initial.rows 0 n;
  shown : (q : ℕ) → q < l.r → ShowsValue l.design (row_at l.rows 0) (RegStart q) (tern_at l.bits q);
}
