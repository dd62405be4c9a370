-- Runs with given first bits and input bits, and whether the bad literal of a graph rises.
use Rattle.std.specs.Prelude.{◌≡◌, ℕ, ◌<◌, Bool, true, false, List, length, count_by}
use Rattle.net_model.specs.Cycles.{IsRun}
use Rattle.net_model.specs.Judge.{IsViolatedAt}
use Rattle.net_model.specs.declared.netlist.Design.{Design}
use Rattle.net_model.specs.declared.cycles.Cycle.{Cycle}
use Rattle.net_model.specs.declared.claims.Claim.{Claim}
use Rattle.and_graphs.specs.Runs.{bad_at}
use Rattle.and_graphs.specs.declared.aigs.Latch.{Latch}
use Rattle.and_graphs.specs.declared.aigs.Aig.{Aig}
use Rattle.claim_monitor.specs.Watches.{AreOfRun}

-- there is a run of so many cycles with these first bits of the registers and these bits of the free inputs at each step
pub record HasRunOf (d : Design) (any : List Bool) (ins : ℕ → List Bool) (cycles : ℕ) : Type 0 where
  pub run : List Cycle
  pub count : length run ≡ cycles
  pub from_reset : IsRun d run
  pub bits : AreOfRun d run any ins

-- the run violates the claim somewhere
abbrev pub IsViolatedBy : Design → Claim → List Cycle → Type 0
IsViolatedBy d claim run = (t : ℕ) × IsViolatedAt d.reset_len d claim run t

-- the bad literal is 1 at one of the first so many steps
abbrev pub RisesWithin : Aig → List Bool → (ℕ → List Bool) → ℕ → Type 0
RisesWithin a any ins steps = (t : ℕ) × (t < steps) × (bad_at a any ins t ≡ true)

-- a bit for each latch whose first bit is any, and at each step one for each input
pub record AreBitsOf (a : Aig) (any : List Bool) (ins : ℕ → List Bool) : Type 0 where
  pub firsts : length any ≡ count_by (λ (x : Latch). x.is_any) a.latches
  pub inputs : (t : ℕ) → length (ins t) ≡ a.inputs

-- the bad literal is 0 at each step, whatever those bits are
abbrev pub NeverRises : Aig → Type 0
NeverRises a = (any : List Bool) (ins : ℕ → List Bool) → AreBitsOf a any ins → (t : ℕ) → bad_at a any ins t ≡ false
