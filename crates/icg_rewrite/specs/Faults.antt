-- Why a design with clock gates is not rewritten.
use Rattle.std.specs.Prelude.{◌≡◌, ℕ, ◌<◌, ◌≤◌, ◌+◌, length, Some, slice_get}
use Rattle.net_model.specs.declared.netlist.Reg.{Reg}
use Rattle.icg_rewrite.specs.declared.clock_gates.Gated.{Gated}
use Rattle.icg_rewrite.specs.declared.faults.RewriteFault.{RewriteFault}
use Rattle.icg_rewrite.specs.declared.faults.RewriteFault.TheVariants.{Pins, Nets, Memory}

-- the register stands behind a clock gate, and has six pins without its enable
pub record IsFull (g : Gated) (r : ℕ) : Type 0 where
  pub reg : Reg
  pub gate : ℕ
  pub at : slice_get g.design.regs r ≡ Some reg
  pub behind : slice_get g.of r ≡ Some (Some gate)
  pub pins : length reg.ins ≡ 6

-- there is room for each enable among a register's pins and among the nets
pub record HasRoom (g : Gated) : Type 0 where
  pub pins : (r : ℕ) → ¬ IsFull g r
  pub nets : g.design.nets + length g.gates ≤ 200000

-- what a refusal says: of registers without room the first, and else how many nets there would be; want of memory alone is
-- free
abbrev pub IsRewriteCause : Gated → RewriteFault → Type 0
IsRewriteCause g (Pins r) = IsFull g r × ((q : ℕ) → q < r → ¬ IsFull g q)
IsRewriteCause g (Nets n) = ((r : ℕ) → ¬ IsFull g r) × (n ≡ g.design.nets + length g.gates) × (200000 < n)
IsRewriteCause g Memory = Unit {0}
