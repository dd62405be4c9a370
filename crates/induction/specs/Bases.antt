-- What the base queries of a clause say.
use Rattle.std.specs.Prelude.{◌≡◌, ℕ, ◌<◌, ◌≤◌, false, List, [], ◌∷◌, All, Contains, Some, slice_get}
use Rattle.net_model.specs.Cycles.{IsRun}
use Rattle.net_model.specs.Queries.{clause_holds, clause_query}
use Rattle.net_model.specs.declared.netlist.Design.{Design}
use Rattle.net_model.specs.declared.cycles.Cycle.{Cycle}
use Rattle.net_model.specs.declared.invariants.InvClause.{InvClause}
use Rattle.net_model.specs.declared.queries.Phase.TheVariants.{Base}
use Rattle.proof_log.specs.declared.derivations.Derivation.{Derivation}
use Rattle.verdicts.specs.Inductive.{IsMetFirst}
use Rattle.verdicts.specs.Logs.{own_coding, RefuteEach, IsSpentOn}
use Rattle.verdict_types.specs.Forms.{IsInForm}
use Rattle.induction.specs.declared.bases.Based.{Based}
use Rattle.induction.specs.declared.bases.Based.TheVariants.{Refuted, Failing, Spent}

-- the clause fails in a live cycle of the run
pub record FailsLive (live : ℕ) (run : List Cycle) (clause : InvClause) : Type 0 where
  pub t : ℕ
  pub c : Cycle
  pub is_live : live ≤ t
  pub at : slice_get run t ≡ Some c
  pub fails : clause_holds c clause ≡ false

-- it fails so in one of these runs
abbrev pub FailsInSome : ℕ → List (List Cycle) → InvClause → Type 0
FailsInSome live runs clause = (run : List Cycle) × Contains runs run × FailsLive live run clause

-- it fails so in some run from reset, so it stands in no inductive set
abbrev pub FailsInRun : Design → InvClause → Type 0
FailsInRun d clause = (run : List Cycle) × IsRun d run × FailsLive d.reset_len run clause

-- the derivations, which are in form, refute the base queries below the depth, and the first live cycles of every run meet the
-- clause
pub record IsBased (d : Design) (depth : ℕ) (clause : InvClause) (base : List Derivation) : Type 0 where
  pub refuted : RefuteEach own_coding (λ offset. clause_query d (clause ∷ []) clause Base offset) depth base
  pub first : IsMetFirst d depth clause
  pub in_form : All IsInForm base

-- they are refuted; or the clause fails in a run; or the log spends the budget on the query of an offset below the depth
abbrev pub IsRightBase : Design → InvClause → ℕ → ℕ → Based → Type 0
IsRightBase d clause depth budget (Refuted base) = IsBased d depth clause base
IsRightBase d clause depth budget (Failing run) = IsRun d run × FailsLive d.reset_len run clause
IsRightBase d clause depth budget (Spent offset log) =
    (offset < depth) × IsSpentOn own_coding (clause_query d (clause ∷ []) clause Base offset) budget log
