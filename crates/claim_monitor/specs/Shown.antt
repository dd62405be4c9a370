-- What literals show where the variables in front have some bits.
use Rattle.std.specs.Prelude.{◌≡◌, ℕ, ◌-◌, ◌<◌, ◌≤◌, ◌==◌, Bool, true, false, not, if◌then◌else◌, List, map, length, All, slice_index}
use Rattle.net_model.specs.Args.{arg_at}
use Rattle.net_model.specs.declared.arguments.Args.{Args}
use Rattle.net_model.specs.Cycles.{bit_at, IsSettled}
use Rattle.net_model.specs.Held.{is_held, free_below}
use Rattle.net_model.specs.Stimuli.{AreInputs}
use Rattle.net_model.specs.declared.netlist.Design.{Design}
use Rattle.net_model.specs.declared.cycles.Cycle.{Cycle}
use Rattle.and_graphs.specs.Graphs.{IsIn, bit_of}
use Rattle.and_graphs.specs.declared.graphs.AndGraph.{AndGraph}
use Rattle.claim_monitor.specs.Fronts.{reg_place, reset_place}
use Rattle.claim_monitor.specs.declared.sizes.Sizes.{Sizes}
use Rattle.claim_monitor.specs.declared.cycle_literals.Literals.{Literals}

-- each literal of a list is one of the graph
abbrev pub AreIn : AndGraph → List ℕ → Type 0
AreIn g ls = All (IsIn g) ls

-- the bits of literals
abbrev pub shown_row : AndGraph → List Bool → List ℕ → List Bool
shown_row g x ls = map (bit_of g x) ls

-- the cycle that literals show
abbrev pub shown_cycle : AndGraph → List Bool → Literals → Cycle
shown_cycle g x ls = record { bits = shown_row g x ls.bits; ins = shown_row g x ls.ins; nets = shown_row g x ls.nets }

-- the cycle is live where the latch of the reset's last cycle is 1; without a reset each one is
abbrev pub is_live : Sizes → List Bool → Bool
is_live s x = if s.resets == 0 then true else bit_at x (reset_place s (s.resets - 1))

-- a literal for each input: the free ones are those in front, fixed ones keep their value, and resets are active until the cycle
-- is live
pub record AreInputLiterals (g : AndGraph) (d : Design) (s : Sizes) (ins : List ℕ) : Type 0 where
  pub in_ : AreIn g ins
  pub lawful : (x : List Bool) → length x ≡ g.front → AreInputs d (not (is_live s x)) (shown_row g x ins)
  pub free : (x : List Bool) → length x ≡ g.front → (i : ℕ) → i < length d.inputs → is_held d i ≡ false
      → bit_at (shown_row g x ins) i ≡ bit_at x (free_below d i)

-- a literal for each net, such that the cycle is settled
pub record AreNetLiterals (g : AndGraph) (d : Design) (bits ins nets : List ℕ) : Type 0 where
  pub in_ : AreIn g nets
  pub settled : (x : List Bool) → length x ≡ g.front
      → IsSettled d (record { bits = shown_row g x bits; ins = shown_row g x ins; nets = shown_row g x nets })

-- what pins on these nets read; the places after them have the constant 0
pub record ArePinLiterals (ins nets : List ℕ) (args : Args ℕ) : Type 0 where
  pub pins : (i : ℕ) → i < length ins → arg_at args i ≡ slice_index nets (slice_index ins i)
  pub rest : (i : ℕ) → length ins ≤ i → i < 7 → arg_at args i ≡ 0

-- a literal for each register, input and net, such that the cycle is settled; register bits are those in front
pub record AreCycleLiterals (g : AndGraph) (d : Design) (s : Sizes) (ls : Literals) : Type 0 where
  pub in_bits : AreIn g ls.bits
  pub regs : (x : List Bool) (r : ℕ) → length x ≡ g.front → r < length d.regs → bit_at (shown_row g x ls.bits) r ≡ bit_at x (reg_place s r)
  pub ins : AreInputLiterals g d s ls.ins
  pub nets : AreNetLiterals g d ls.bits ls.ins ls.nets

-- a literal of the graph for each register, input and net
pub record AreLiteralsFor (g : AndGraph) (d : Design) (ls : Literals) : Type 0 where
  pub bits : length ls.bits ≡ length d.regs
  pub ins : length ls.ins ≡ length d.inputs
  pub nets : length ls.nets ≡ d.nets
  pub in_bits : AreIn g ls.bits
  pub in_ins : AreIn g ls.ins
  pub in_nets : AreIn g ls.nets
