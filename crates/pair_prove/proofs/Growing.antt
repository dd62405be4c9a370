-- What queries of growing depth leave known.
use Rattle.std.proofs.Common.{◌≡◌, ◌≢◌, ℕ, ◌+◌, ◌<◌, ◌≤◌, List, [], ◌∷◌, ◌++◌, refl, subst, arith, inl, inr, All}
use Rattle.std.proofs.lemmas.Bool.{cases_lt}
use Rattle.std.proofs.lemmas.List.{length-append}
use Rattle.std.proofs.lemmas.List.Elements.{All-nil, All-push}
use Rattle.net_model.specs.Netlist.{IsSound}
use Rattle.net_model.specs.Stimuli.{StandsFor}
use Rattle.net_model.specs.Queries.{Query, IsAnswer, claim_query}
use Rattle.net_model.specs.declared.netlist.Design.{Design}
use Rattle.net_model.specs.declared.cycles.Cycle.{Cycle}
use Rattle.net_model.specs.declared.cycles.Stimulus.{Stimulus}
use Rattle.net_model.specs.declared.claims.Claim.{Claim}
use Rattle.net_model.specs.declared.invariants.InvClause.{InvClause}
use Rattle.net_model.specs.declared.queries.Phase.TheVariants.{Base, Step}
use Rattle.proof_log.specs.declared.derivations.Derivation.{Derivation}
use Rattle.verdicts.specs.Offsets.{HoldsAtOffset, IsOpenAt}
use Rattle.verdicts.specs.Logs.{own_coding, RefutesQuery, RefuteEach}
use Rattle.verdicts.specs.Verdicts.{IsJudged, IsReached, IsWitness, IsRight, IsRightProof}
use Rattle.verdicts.specs.Inductive.{AreAlwaysMet}
use Rattle.verdict_types.specs.Forms.{IsInForm, AreInForm}
use Rattle.verdict_types.specs.declared.outcomes.Limits.{Limits}
use Rattle.verdict_types.specs.declared.outcomes.Cause.TheVariants.{Depth as Stays}
use Rattle.verdict_types.specs.declared.outcomes.Verdict.{Verdict}
use Rattle.verdict_types.specs.declared.outcomes.Verdict.TheVariants.{Justified, Refuted, Undecided}
use Rattle.verdicts.proofs.Cutting.{holds_at}
use Rattle.verdicts.proofs.Certifying.{justified_holds}
use Rattle.verdicts.proofs.Extending.{push_cases}
use Rattle.query_asks.specs.Asks.{HasAnswer, IsRefutedBy}
use Rattle.pair_prove.specs.Proving.{HoldsWhereJustified, IsLeastWhereRefuted}

-- the queries below a depth leave the claim open, and their base queries are refuted, by derivations in form
pub record OpenSoFar (d : Design) (claim : Claim) (kept : List InvClause) (limit depth : ℕ) (base : List Derivation) : Type 0 where
  pub reached : IsReached d claim kept limit depth
  pub refuted : RefuteEach own_coding (λ k. claim_query d claim Base k kept) depth base
  pub in_form : All IsInForm base

pub open_first : (d : Design) (claim : Claim) (kept : List InvClause) (limit : ℕ) → IsJudged d claim → OpenSoFar d claim kept limit 0 []
open_first d claim kept limit judged =
    record {
      reached =
          record {
            judged = judged;
            allowed = omega arith;
            open_ = record { holds = λ offset low. absurd (omega (arith, low)); answered = λ offset low. absurd (omega (arith, low)) };
          };
      refuted = record { as_many = refl; each = λ k derivation at. cc };
      in_form = All-nil IsInForm;
    }

-- a fact of all smaller numbers and of this one
up_to : (P : ℕ → Type 0) (n : ℕ) → ((k : ℕ) → k < n → P k) → P n → (k : ℕ) → k < n + 1 → P k
up_to P n below here k low =
    elim (cases_lt k n) [
      | inl less ↦ below k less
      | inr more ↦ subst P (let e : n ≡ k = omega (arith, low, more) in e) here
    ]

-- one more derivation
refute_more : (query : ℕ → Query) (count : ℕ) (derivations : List Derivation) (derivation : Derivation) → RefuteEach own_coding query count derivations
    → RefutesQuery own_coding (query count) derivation → RefuteEach own_coding query (count + 1) (derivations ++ derivation ∷ [])
refute_more query count derivations derivation all one =
    record {
      as_many = omega (arith, length-append derivations (derivation ∷ []), all.as_many);
      each = λ k found at. elim (push_cases derivations derivation k found at) [
        | inl early ↦ all.each k found early
        | inr last ↦
            let same : count ≡ k = omega (arith, last.0, all.as_many) in
            subst (RefutesQuery own_coding (query k)) last.1 (subst (λ (j : ℕ). RefutesQuery own_coding (query j) derivation) same one)
      ];
    }

-- where neither query of a depth decides, and it isn't the greatest, the next one is reached
pub open_more : (d : Design) (claim : Claim) (kept : List InvClause) (limit depth : ℕ) (base : List Derivation) (derivation : Derivation)
    → IsSound d → OpenSoFar d claim kept limit depth base → depth ≢ limit
    → IsRefutedBy (claim_query d claim Base depth kept) derivation → HasAnswer (claim_query d claim Step depth kept)
    → OpenSoFar d claim kept limit (depth + 1) (base ++ derivation ∷ [])
open_more d claim kept limit depth base derivation sound so other refuted answer =
    record {
      reached =
          record {
            judged = so.reached.judged;
            allowed = below limit depth so.reached.allowed other;
            open_ =
                record {
                  holds = up_to (HoldsAtOffset d claim) depth so.reached.open_.holds (holds_at d claim kept depth sound refuted.none);
                  answered = up_to (IsOpenAt d claim kept) depth so.reached.open_.answered answer;
                };
          };
      refuted = refute_more (λ k. claim_query d claim Base k kept) depth base derivation so.refuted refuted.refutes;
      in_form = All-push IsInForm base derivation so.in_form refuted.in_form;
    }
  where
    below : (limit depth : ℕ) → depth ≤ limit → depth ≢ limit → depth + 1 ≤ limit
    below limit depth allowed other =
        elim (cases_lt depth limit) [
          | inl less ↦ omega (arith, less)
          | inr more ↦ absurd (other (let e : depth ≡ limit = omega (arith, allowed, more) in e))
        ]

-- the derivations of a claim that is justified at a depth are in form
pub justified_in_form : (d : Design) (claim : Claim) (kept : List InvClause) (limit depth : ℕ) (base : List Derivation) (step : Derivation) → limit ≤ 64
    → OpenSoFar d claim kept limit depth base → IsInForm step → (depth ≤ 64) × AreInForm depth base step
justified_in_form d claim kept limit depth base step few so last = (
  omega (arith, so.reached.allowed, few),
  record { as_many = so.refuted.as_many; bases = so.in_form; step = last },
)

-- at the greatest depth the claim stays open
pub stays : (d : Design) (claim : Claim) (kept : List InvClause) (limits : Limits) (depth : ℕ) → depth ≡ limits.depth
    → IsReached d claim kept limits.depth depth → HoldsAtOffset d claim depth → IsOpenAt d claim kept depth
    → IsRight d claim kept limits (Undecided Stays)
stays d claim kept limits depth last reached holds answer = (
  subst (IsReached d claim kept limits.depth) last reached,
  subst (HoldsAtOffset d claim) last holds,
  subst (IsOpenAt d claim kept) last answer,
)

-- the run that answers the base query, told by its stimulus
pub witness_of : (d : Design) (claim : Claim) (kept : List InvClause) (depth : ℕ) (run : List Cycle) (s : Stimulus)
    → IsAnswer (claim_query d claim Base depth kept) run → StandsFor s run → IsWitness d claim depth s
witness_of d claim kept depth run s answer stands =
    record {
      run = run;
      from_reset = record { linked = answer.cycles.linked; resets = answer.cycles.resets };
      stands = stands;
      long = answer.cycles.count;
      violated = answer.asked.1;
    }

-- a right verdict that justifies is about a claim that holds
pub holds_of_right : (d : Design) (claim : Claim) (kept : List InvClause) (limits : Limits) (verdict : Verdict) → IsSound d → AreAlwaysMet d kept
    → IsRight d claim kept limits verdict → HoldsWhereJustified d claim verdict
holds_of_right d claim kept limits (Justified found) sound met right proof same =
    let e : found ≡ proof = cc in
    justified_holds d claim kept limits proof sound met (subst (IsRightProof d claim kept limits) e right)
holds_of_right d claim kept limits (Refuted offset stimulus) sound met right proof same = absurd cc
holds_of_right d claim kept limits (Undecided cause) sound met right proof same = absurd cc

-- a right verdict that refutes has the least witness
pub least_of_right : (d : Design) (claim : Claim) (kept : List InvClause) (limits : Limits) (verdict : Verdict) → IsRight d claim kept limits verdict
    → IsLeastWhereRefuted d claim verdict
least_of_right d claim kept limits (Justified found) right offset stimulus same = absurd cc
least_of_right d claim kept limits (Refuted at by) right offset stimulus same =
    let offsets : at ≡ offset = cc in
    let stimuli : by ≡ stimulus = cc in
    record {
      witness = subst (IsWitness d claim offset) stimuli (subst (λ (k : ℕ). IsWitness d claim k by) offsets right.1);
      least = subst (λ (k : ℕ). (smaller : ℕ) → smaller < k → HoldsAtOffset d claim smaller) offsets right.0.open_.holds;
    }
least_of_right d claim kept limits (Undecided cause) right offset stimulus same = absurd cc
