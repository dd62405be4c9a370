use Rattle.std.proofs.Common.{◌≡◌, ℕ, Bool, List, length}
use Rattle.std.specs.Prelude.{Contains}
use Rattle.net_model.specs.Cycles.{bit_at}
use Rattle.net_model.proofs.Sources.{RegsShown}
use Rattle.and_graphs.specs.declared.graphs.AndGraph.{AndGraph}
use Rattle.claim_monitor.specs.Shown.{AreIn, shown_row}
use Rattle.claim_monitor.proofs.nets.put_regs.Given as goal

abbrev pub invariant-loop-r : goal.invariant-loop-r
invariant-loop-r l = record {
  len : length l.nets ≡ l.design.nets;
  in_ : (g : AndGraph) → AreIn g l.bits → AreIn g l.initial.nets → AreIn g l.nets;
  kept : (g : AndGraph) (x : List Bool) (n : ℕ) → AreIn g l.bits → length x ≡ g.front → Contains l.design.inputs n → bit_at (shown_row g x l.nets) n ≡ bit_at (shown_row g x l.initial.nets) n;
  shown : (g : AndGraph) (x : List Bool) → AreIn g l.bits → length x ≡ g.front → RegsShown l.design (shown_row g x l.bits) (shown_row g x l.nets) l.r;
}
