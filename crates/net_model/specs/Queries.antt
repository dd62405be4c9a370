-- What a query asks of runs and stretches, and those that answer it.
use Rattle.std.specs.Prelude.{◌≡◌, ℕ, ◌+◌, ◌-◌, ◌<◌, Bool, true, false, not, List, length, Contains, Some, slice_get, nat_lt, if◌then◌else◌}
use Rattle.std.specs.List.{list_any}
use Rattle.net_model.specs.Cycles.{bit_at, IsLinked, HasResets}
use Rattle.net_model.specs.Judge.{judged_count, IsViolatedAt}
use Rattle.net_model.specs.declared.netlist.Design.{Design}
use Rattle.net_model.specs.declared.cycles.Cycle.{Cycle}
use Rattle.net_model.specs.declared.invariants.StateLit.{StateLit}
use Rattle.net_model.specs.declared.invariants.InvClause.{InvClause}
use Rattle.net_model.specs.declared.queries.Phase.{Phase}
use Rattle.net_model.specs.declared.queries.Phase.TheVariants.{Base, Step}
use Rattle.net_model.specs.declared.claims.Claim.{Claim}

-- whether the claim is violated at an offset from the first cycle that may toggle, and at none of the first `clean` offsets;
-- or whether a clause fails in the last cycle
pub data Question : Type 0 where
  Violates : (claim : Claim) (offset clean : ℕ) → Question
  Breaks : (clause : InvClause) → Question

-- a question about so many linked cycles of a design, of which the first `live` have active resets, and in whose first
-- `kept_below` the kept clauses hold
pub record Query : Type 0 where
  pub design : Design
  pub live : ℕ
  pub cycles : ℕ
  pub kept : List InvClause
  pub kept_below : ℕ
  pub question : Question

-- the base phase asks about runs from reset, which begin with the resets; the step phase about stretches, which have none
abbrev pub live_of : Design → Phase → ℕ
live_of d Base = d.reset_len
live_of d Step = 0

-- a number in the step phase, and in the base phase 0
abbrev pub only_in_step : Phase → ℕ → ℕ
only_in_step Base n = 0
only_in_step Step n = n

-- is the claim violated at this depth, and at none below it in the step phase, where the clauses hold in every cycle? The
-- cycles go up to the last capture that is judged
abbrev pub claim_query : Design → Claim → Phase → ℕ → List InvClause → Query
claim_query d claim phase depth inv =
    record {
      design = d;
      live = live_of d phase;
      cycles = live_of d phase + depth + 1 + judged_count claim;
      kept = inv;
      kept_below = only_in_step phase (live_of d phase + depth + 1 + judged_count claim);
      question = Violates claim depth (only_in_step phase depth);
    }

-- does the clause fail in the cycle of this depth, where in the step phase the clauses hold in every cycle before?
abbrev pub clause_query : Design → List InvClause → InvClause → Phase → ℕ → Query
clause_query d inv clause phase depth =
    record {
      design = d;
      live = live_of d phase;
      cycles = live_of d phase + depth + 1;
      kept = inv;
      kept_below = only_in_step phase depth;
      question = Breaks clause;
    }

-- the value of a literal in a cycle: the register's bit, or its complement
abbrev pub state_value : Cycle → StateLit → Bool
state_value c l = if l.value then bit_at c.bits l.reg else not (bit_at c.bits l.reg)

-- the clause holds in a cycle: some literal of it is true there
abbrev pub clause_holds : Cycle → InvClause → Bool
clause_holds c clause = list_any (state_value c) clause.lits

-- as many settled and linked cycles as the query has, with resets active where it has them so
pub record AreCyclesOf (q : Query) (run : List Cycle) : Type 0 where
  pub linked : IsLinked q.design run
  pub resets : (t : ℕ) (c : Cycle) → slice_get run t ≡ Some c → HasResets q.design (nat_lt t q.live) c
  pub count : length run ≡ q.cycles

-- what is asked is so in these cycles
abbrev pub IsAsked : Query → Question → List Cycle → Type 0
IsAsked q (Violates claim offset clean) run =
    ((o : ℕ) → o < clean → ¬ IsViolatedAt q.live q.design claim run (q.live + 1 + o)) × IsViolatedAt q.live q.design claim run (q.live + 1 + offset)
IsAsked q (Breaks clause) run = (c : Cycle) → slice_get run (q.cycles - 1) ≡ Some c → clause_holds c clause ≡ false

-- cycles that answer a query: in the first of them the kept clauses hold, and what is asked is so
pub record IsAnswer (q : Query) (run : List Cycle) : Type 0 where
  pub cycles : AreCyclesOf q run
  pub kept : (t : ℕ) (c : Cycle) (clause : InvClause) → t < q.kept_below → slice_get run t ≡ Some c → Contains q.kept clause → clause_holds c clause ≡ true
  pub asked : IsAsked q q.question run
