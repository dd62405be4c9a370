-- Literals of captures.
use Rattle.std.specs.Prelude.{◌≡◌, ℕ, ◌<◌, Bool, List, length, slice_index}
use Rattle.net_model.specs.Args.{arg_at}
use Rattle.net_model.specs.Cycles.{capture, reg_capture}
use Rattle.net_model.specs.declared.arguments.Args.{Args}
use Rattle.net_model.specs.declared.netlist.Design.{Design}
use Rattle.net_model.specs.declared.netlist.Reg.{Reg}
use Rattle.net_model.specs.declared.claims.End.TheVariants.{Reg as RegEnd}
use Rattle.and_graphs.specs.Graphs.{Means}
use Rattle.and_graphs.specs.declared.graphs.AndGraph.{AndGraph}
use Rattle.claim_monitor.specs.Shown.{shown_cycle}
use Rattle.claim_monitor.specs.declared.cycle_literals.Literals.{Literals}

-- what a register's pins on these nets read, and at the place after them its own bit; the places after it have the constant 0
pub record AreRegLiterals (ins nets : List ℕ) (bit : ℕ) (args : Args ℕ) : Type 0 where
  pub pins : (i : ℕ) → i < length ins → arg_at args i ≡ slice_index nets (slice_index ins i)
  pub own : arg_at args (length ins) ≡ bit
  pub rest : (i : ℕ) → length ins < i → i < 7 → arg_at args i ≡ 0

-- the literal means a register's capture, whatever its places' literals mean in an earlier graph
abbrev pub LowersCapture : AndGraph → Args ℕ → Reg → AndGraph → ℕ → Type 0
LowersCapture old args reg new l =
    (f : ℕ → List Bool → Bool) → ((i : ℕ) → i < 7 → Means old (arg_at args i) (f i)) → Means new l (λ x. reg_capture reg (λ i. f i x))

-- a literal for the capture of each register, in the cycle that these literals show
pub record AreCaptureLiterals (g : AndGraph) (d : Design) (ls : Literals) (nexts : List ℕ) : Type 0 where
  pub count : length nexts ≡ length d.regs
  pub each : (r : ℕ) → r < length d.regs → Means g (slice_index nexts r) (λ x. capture d (RegEnd r) (shown_cycle g x ls))
