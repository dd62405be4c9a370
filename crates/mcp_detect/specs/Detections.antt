-- What is found out about the pairs of a design.
use Rattle.std.specs.Prelude.{◌≡◌, ℕ, ◌+◌, ◌<◌, ◌≤◌, false, List, [], length, Option, Some, None, slice_get}
use Rattle.sdcv_base.specs.declared.kinds.Kind.TheVariants.{Multi}
use Rattle.net_model.specs.Judge.{Holds}
use Rattle.net_model.specs.declared.netlist.Design.{Design}
use Rattle.net_model.specs.declared.claims.Claim.{Claim}
use Rattle.net_model.specs.declared.invariants.InvClause.{InvClause}
use Rattle.linked_types.specs.declared.names.Linked.{Linked}
use Rattle.run_options.specs.Judging.{judging_by}
use Rattle.exception_expand.specs.Selections.{IsSelectionOf}
use Rattle.selected_types.specs.declared.selections.PairLine.{PairLine}
use Rattle.selected_types.specs.declared.selections.Selected.{Selected}
use Rattle.verdict_types.specs.declared.outcomes.Proof.{Proof}
use Rattle.verdict_types.specs.declared.outcomes.Verdict.{Verdict}
use Rattle.verdict_types.specs.declared.outcomes.Verdict.TheVariants.{Justified}
use Rattle.verdicts.specs.Inductive.{AreAlwaysMet}
use Rattle.verdicts.specs.Verdicts.{IsRight}
use Rattle.invariants.specs.Invariants.{AreInvariants}
use Rattle.mcp_detect.specs.declared.options.DetectOptions.{DetectOptions}
use Rattle.mcp_detect.specs.declared.detections.Tried.{Tried}
use Rattle.mcp_detect.specs.declared.detections.Detected.{Detected}
use Rattle.mcp_detect.specs.Options.{limits_of}
use Rattle.mcp_detect.specs.Scripts.{registers_script}

-- the claim with this multiplier, of the same pair
abbrev pub with_multiplier : ℕ → Claim → Claim
with_multiplier k claim = record claim { kind = Multi k }

-- the claim is of the late side, and has no lag and no through sets
pub record IsBare (claim : Claim) : Type 0 where
  pub late : claim.early ≡ false
  pub lag : claim.lag ≡ 0
  pub through : claim.through ≡ []

abbrev pub IsJustified : Verdict → Type 0
IsJustified verdict = (proof : Proof) × (verdict ≡ Justified proof)

-- the claim is justified, rightly, and so it holds in every run from reset
pub record IsFound (d : Design) (o : DetectOptions) (kept : List InvClause) (claim : Claim) : Type 0 where
  pub proof : Proof
  pub right : IsRight d claim kept (limits_of o) (Justified proof)
  pub holds : Holds d claim

-- why no larger multiplier is found: the bound is reached, or the verdict on the next one is right, and justifies nothing
abbrev pub IsStop : Design → DetectOptions → List InvClause → Claim → ℕ → Option Verdict → Type 0
IsStop d o kept claim k None = k ≡ o.bound
IsStop d o kept claim k (Some verdict) =
    (k < o.bound) × IsRight d (with_multiplier (k + 1) claim) kept (limits_of o) verdict × ¬ IsJustified verdict

-- the largest multiplier, within the bound, up to which all claims of a pair are found
pub record IsLargest (d : Design) (o : DetectOptions) (kept : List InvClause) (claim : Claim) (k : ℕ) (next : Option Verdict) : Type 0 where
  pub some : 1 ≤ k
  pub most : k ≤ o.bound
  pub found : (m : ℕ) → 2 ≤ m → m ≤ k → IsFound d o kept (with_multiplier m claim)
  pub stop : IsStop d o kept claim k next

-- a pair is tried: it has the names of its line, and its largest multiplier
pub record IsTried (d : Design) (o : DetectOptions) (kept : List InvClause) (line : PairLine) (claim : Claim) (t : Tried) : Type 0 where
  pub start : t.start ≡ line.start
  pub end : t.end ≡ line.end
  pub largest : IsLargest d o kept claim t.k t.next

-- the first pairs are tried, so many of them
pub record AreTriedFirst (d : Design) (o : DetectOptions) (kept : List InvClause) (s : Selected) (count : ℕ) (tried : List Tried) : Type 0 where
  pub as_many : length tried ≡ count
  pub each : (place : ℕ) (line : PairLine) (claim : Claim) (t : Tried) → slice_get s.pairs place ≡ Some line → slice_get s.claims place ≡ Some claim
      → slice_get tried place ≡ Some t → IsTried d o kept line claim t

-- all pairs of a selection are tried
abbrev pub AreTried : Design → DetectOptions → List InvClause → Selected → List Tried → Type 0
AreTried d o kept s tried = AreTriedFirst d o kept s (length s.claims) tried

-- the pairs of registers between which a path leads are tried, at most 10,000, each with the clauses that are kept for the claims
-- of all of them with multiplier 2
pub record AreDetected (l : Linked) (o : DetectOptions) (f : Detected) : Type 0 where
  pub selected : Selected
  pub pairs : IsSelectionOf l registers_script (judging_by o.hazard 0) selected
  -- the kept clauses are the greatest inductive set of the clauses near the claims, but for those whose query spends the budget
  pub invariants : AreInvariants l.design selected.claims [] o.inv_depth o.budget f.inv
  -- each kept clause holds in every live cycle of every run
  pub kept_hold : AreAlwaysMet l.design f.inv.kept
  pub tried : AreTried l.design o f.inv.kept selected f.tried
  pub few : length f.tried ≤ 10000
