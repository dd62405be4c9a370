-- The drawn runs.
use Rattle.std.specs.Prelude.{◌≡◌, ℕ, ◌+◌, ◌*◌, ◌<◌, ◌≤◌, Bool, true, false, List, length, Some, slice_get}
use Rattle.net_model.specs.Cycles.{bit_at, IsRun}
use Rattle.net_model.specs.Held.{is_held, free_below}
use Rattle.net_model.specs.LaneBits.{lane}
use Rattle.net_model.specs.Queries.{clause_holds}
use Rattle.net_model.specs.declared.netlist.Design.{Design}
use Rattle.net_model.specs.declared.cycles.Cycle.{Cycle}
use Rattle.net_model.specs.declared.invariants.InvClause.{InvClause}
use Rattle.drawn_runs.specs.Draws.{word}

-- how many words are drawn before a cycle: one for each register, and then for each earlier cycle one for each free input
abbrev pub words_before : Design → ℕ → ℕ
words_before d t = length d.regs + t * free_below d (length d.inputs)

-- the register bits are lane i of the first words, one for each register
abbrev pub AreFirst : Design → ℕ → List Bool → Type 0
AreFirst d i bits = (r : ℕ) → r < length d.regs → bit_at bits r ≡ lane (word r) i

-- the bits of the free inputs are lane i of the words from `base` on, one for each of them
abbrev pub AreFree : Design → ℕ → ℕ → List Bool → Type 0
AreFree d i base ins =
    (input : ℕ) → input < length d.inputs → is_held d input ≡ false → bit_at ins input ≡ lane (word (base + free_below d input)) i

-- drawn run number i, or a beginning of it: a run from reset of up to 64 cycles more than the reset, whose free bits are lane i of
-- the drawn words
pub record IsDrawn (d : Design) (i : ℕ) (run : List Cycle) : Type 0 where
  pub from_reset : IsRun d run
  pub short : length run ≤ d.reset_len + 64
  pub first : (c : Cycle) → slice_get run 0 ≡ Some c → AreFirst d i c.bits
  pub inputs : (t : ℕ) (c : Cycle) → slice_get run t ≡ Some c → AreFree d i (words_before d t) c.ins

-- a clause holds in the live cycles, below a number, of all 64 drawn runs
abbrev pub HoldsBelow : Design → ℕ → InvClause → Type 0
HoldsBelow d limit clause =
    (i : ℕ) (run : List Cycle) (t : ℕ) (c : Cycle) → i < 64 → IsDrawn d i run → d.reset_len ≤ t → t < limit → slice_get run t ≡ Some c
    → clause_holds c clause ≡ true

-- it holds in all their live cycles
abbrev pub HoldsDrawn : Design → InvClause → Type 0
HoldsDrawn d clause =
    (i : ℕ) (run : List Cycle) (t : ℕ) (c : Cycle) → i < 64 → IsDrawn d i run → d.reset_len ≤ t → slice_get run t ≡ Some c
    → clause_holds c clause ≡ true

-- it fails in a live cycle of one of them
pub record FailsDrawn (d : Design) (clause : InvClause) : Type 0 where
  pub number : ℕ
  pub low : number < 64
  pub run : List Cycle
  pub drawn : IsDrawn d number run
  pub t : ℕ
  pub c : Cycle
  pub is_live : d.reset_len ≤ t
  pub at : slice_get run t ≡ Some c
  pub fails : clause_holds c clause ≡ false
