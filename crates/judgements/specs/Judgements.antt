-- What is found out about some claims.
use Rattle.std.specs.Prelude.{◌≡◌, ℕ, ◌≤◌, Some, List, length, slice_get, All}
use Rattle.net_model.specs.Judge.{Holds}
use Rattle.net_model.specs.declared.netlist.Design.{Design}
use Rattle.net_model.specs.declared.cycles.Stimulus.{Stimulus}
use Rattle.net_model.specs.declared.claims.Claim.{Claim}
use Rattle.net_model.specs.declared.invariants.InvClause.{InvClause}
use Rattle.net_model.specs.Fits.{NamesRegs}
use Rattle.verdicts.specs.Inductive.{AreAlwaysMet}
use Rattle.verdicts.specs.Verdicts.{IsRight}
use Rattle.verdict_types.specs.Forms.{IsKeptClause, IsSetInForm, IsVerdictInForm}
use Rattle.verdict_types.specs.declared.outcomes.Limits.{Limits}
use Rattle.verdict_types.specs.declared.outcomes.Proof.{Proof}
use Rattle.verdict_types.specs.declared.outcomes.Proof.TheVariants.{Single, Fixed, Depth}
use Rattle.verdict_types.specs.declared.outcomes.Cause.TheVariants.{Depth as Stays, Budget, Free, Cut}
use Rattle.verdict_types.specs.declared.outcomes.Verdict.{Verdict}
use Rattle.verdict_types.specs.declared.outcomes.Verdict.TheVariants.{Justified, Refuted, Undecided}
use Rattle.pair_prove.specs.Proving.{HoldsWhereJustified, IsLeastWitness, IsLeastWhereRefuted}
use Rattle.invariants.specs.Invariants.{AreInvariants}
use Rattle.cert_defs.specs.Accepted.{AreRightVerdicts}
use Rattle.judgements.specs.declared.judged.Judged.{Judged}
use Rattle.judgements.specs.declared.searches.InvSearch.{InvSearch}

-- a search that can be made: its induction is shallow, and its further clauses are in form and name registers of the design
pub record CanBeSought (d : Design) (search : InvSearch) : Type 0 where
  pub shallow : search.depth ≤ 8
  pub names : All (NamesRegs d) search.extra.now
  pub in_form : All IsKeptClause search.extra.now

-- what is promised of all verdicts together, and of the clauses that are kept, with further clauses that are tried
pub record AreJudged (d : Design) (claims : List Claim) (extra : List InvClause) (inv_depth : ℕ) (limits : Limits) (j : Judged) : Type 0 where
  -- a claim that is justified holds in every run from reset
  pub holds : (place : ℕ) (claim : Claim) (proof : Proof) → slice_get claims place ≡ Some claim → slice_get j.verdicts place ≡ Some (Justified proof)
      → Holds d claim
  -- a claim that is refuted is violated by the run of its stimulus, at the least offset of all runs
  pub violated : (place offset : ℕ) (claim : Claim) (s : Stimulus) → slice_get claims place ≡ Some claim
      → slice_get j.verdicts place ≡ Some (Refuted offset s) → IsLeastWitness d claim offset s
  -- each claim has its verdict, which is right, given the kept clauses and the limits
  pub right : AreRightVerdicts d claims j.inv.kept limits j.verdicts
  -- the kept clauses are the greatest inductive set of the clauses near the claims and the further ones, but for those whose query
  -- spends the budget
  pub invariants : AreInvariants d claims extra inv_depth limits.budget j.inv
  -- each kept clause holds in every live cycle of every run
  pub kept_hold : AreAlwaysMet d j.inv.kept
  -- and names registers of the design
  pub names : All (NamesRegs d) j.inv.kept

-- the text of a certificate can spell what is found out
pub record AreAllInForm (j : Judged) : Type 0 where
  pub set : IsSetInForm j.inv
  pub verdicts : All IsVerdictInForm j.verdicts

-- what one verdict says of its claim
pub record IsFound (d : Design) (claim : Claim) (kept : List InvClause) (limits : Limits) (verdict : Verdict) : Type 0 where
  pub right : IsRight d claim kept limits verdict
  pub holds : HoldsWhereJustified d claim verdict
  pub violated : IsLeastWhereRefuted d claim verdict

-- there are so many verdicts, each on the claim of its place, and in form
pub record AreFoundFirst (d : Design) (claims : List Claim) (kept : List InvClause) (limits : Limits) (count : ℕ) (verdicts : List Verdict) : Type 0 where
  pub as_many : length verdicts ≡ count
  pub each : (place : ℕ) (claim : Claim) (verdict : Verdict) → slice_get claims place ≡ Some claim → slice_get verdicts place ≡ Some verdict
      → IsFound d claim kept limits verdict
  pub in_form : All IsVerdictInForm verdicts

-- one for each claim
abbrev pub AreFound : Design → List Claim → List InvClause → Limits → List Verdict → Type 0
AreFound d claims kept limits verdicts = AreFoundFirst d claims kept limits (length claims) verdicts

-- the claim is justified at this depth
abbrev pub IsJustifiedAt : ℕ → Verdict → Type 0
IsJustifiedAt depth (Justified Single) = ⊥
IsJustifiedAt depth (Justified Fixed) = ⊥
IsJustifiedAt depth (Justified (Depth at base step)) = at ≡ depth
IsJustifiedAt depth (Refuted offset stimulus) = ⊥
IsJustifiedAt depth (Undecided cause) = ⊥

-- the claim is not left open by a query that spends the budget
abbrev pub SpendsNone : Verdict → Type 0
SpendsNone (Justified proof) = Unit {0}
SpendsNone (Refuted offset stimulus) = Unit {0}
SpendsNone (Undecided Stays) = Unit {0}
SpendsNone (Undecided (Budget phase depth log)) = ⊥
SpendsNone (Undecided (Free offset stimulus)) = Unit {0}
SpendsNone (Undecided Cut) = Unit {0}
