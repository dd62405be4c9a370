-- Drawn stretches, and the clauses that fail after them.
use Rattle.std.specs.Prelude.{◌≡◌, ℕ, ◌+◌, ◌<◌, Bool, true, false, not, ◌||◌, List, length, Contains, Some, slice_get}
use Rattle.net_model.specs.Cycles.{bit_at, capture, IsSettled, IsNext, IsStretch}
use Rattle.net_model.specs.Stimuli.{AreInputs}
use Rattle.net_model.specs.Queries.{clause_holds}
use Rattle.net_model.specs.LaneBits.{lane, lane_row, lane_cycle}
use Rattle.net_model.specs.declared.netlist.Design.{Design}
use Rattle.net_model.specs.declared.cycles.Cycle.{Cycle}
use Rattle.net_model.specs.declared.invariants.InvClause.{InvClause}
use Rattle.net_model.specs.declared.claims.End.TheVariants.{Reg as RegEnd}
use Rattle.net_model.specs.declared.lane_words.Lanes.{Lanes}
use Rattle.drawn_runs.specs.Inputs.{AreHeldMarks}
use Rattle.drawn_runs.specs.Sifts.{in_each, bits_cycle}
use Rattle.drawn_runs.specs.Survivors.{IsSifted}
use Rattle.drawn_runs.specs.declared.stretches.Stretches.{Stretches}

-- each cycle of a list meets each clause of a set
abbrev pub MeetSet : List InvClause → List Cycle → Type 0
MeetSet set run = (k : ℕ) (c : Cycle) → slice_get run k ≡ Some c → (clause : InvClause) → Contains set clause → clause_holds c clause ≡ true

-- the last cycle of a stretch of so many cycles and one fails a clause, where the cycles before it meet a set
pub record FailsNext (d : Design) (depth : ℕ) (set : List InvClause) (clause : InvClause) : Type 0 where
  pub stretch : List Cycle
  pub is_stretch : IsStretch d stretch
  pub met : (k : ℕ) (before : Cycle) → k < depth → slice_get stretch k ≡ Some before → (other : InvClause) → Contains set other
      → clause_holds before other ≡ true
  pub c : Cycle
  pub at : slice_get stretch depth ≡ Some c
  pub fails : clause_holds c clause ≡ false

-- nothing is said of a clause that stays
abbrev pub Stays : InvClause → Type 0
Stays clause = Unit {0}

-- of the first list some clauses are left out, in the second; each of them fails after a stretch that meets the first list
abbrev pub IsThinnedOnce : Design → ℕ → List InvClause → List InvClause → Type 0
IsThinnedOnce d depth clauses left = IsSifted Stays (FailsNext d depth clauses) clauses left

-- that is done some times, each time to what is left
pub data IsThinned (d : Design) (depth : ℕ) (clauses : List InvClause) : List InvClause → Type 0 where
  All_left : IsThinned d depth clauses clauses
  Fewer_left : (left fewer : List InvClause) → IsThinned d depth clauses left → IsThinnedOnce d depth left fewer
      → IsThinned d depth clauses fewer

-- whether a clause holds in each of these lanes of register bits
abbrev pub holds_where : Lanes → List Lanes → InvClause → Bool
holds_where lanes bits clause = in_each 64 (λ i. clause_holds (bits_cycle i bits) clause || not (lane lanes i))

-- a cycle of a stretch, by itself: settled, with lawful input bits
pub record IsStretchCycle (d : Design) (c : Cycle) : Type 0 where
  pub settled : IsSettled d c
  pub lawful : AreInputs d false c.ins

-- the first t cycles of a stretch, after which come these register bits
pub record IsStretchTo (d : Design) (t : ℕ) (bits : List Bool) (run : List Cycle) : Type 0 where
  pub count : length run ≡ t
  pub each : (k : ℕ) (c : Cycle) → slice_get run k ≡ Some c → IsStretchCycle d c
  pub next : (k : ℕ) (before c : Cycle) → slice_get run k ≡ Some before → slice_get run (k + 1) ≡ Some c → IsNext d before c
  pub follows : (k : ℕ) (c : Cycle) → slice_get run k ≡ Some c → k + 1 ≡ t → (r : ℕ) → r < length d.regs → bit_at bits r ≡ capture d (RegEnd r) c

-- there are such cycles, and where so told they meet a set
abbrev pub HasStretchTo : Design → List InvClause → Bool → ℕ → List Bool → Type 0
HasStretchTo d set met t bits = (run : List Cycle) × IsStretchTo d t bits run × (met ≡ true → MeetSet set run)

-- a lane of the words
abbrev pub cycle_in : ℕ → Stretches → Cycle
cycle_in i s = lane_cycle i s.bits s.ins s.nets

-- there is a word for each register, input and net, and which inputs are held is known
pub record IsReady (d : Design) (s : Stretches) : Type 0 where
  pub bits : length s.bits ≡ length d.regs
  pub ins : length s.ins ≡ length d.inputs
  pub nets : length s.nets ≡ d.nets
  pub marks : AreHeldMarks d s.marks

-- in each lane stand the register bits after t cycles of a stretch; in the lanes that are told these cycles meet a set
pub record AreStretchesTo (d : Design) (set : List InvClause) (t : ℕ) (s : Stretches) : Type 0 where
  pub ready : IsReady d s
  pub ran : (i : ℕ) → i < 64 → HasStretchTo d set (lane s.met i) t (lane_row i s.bits)
