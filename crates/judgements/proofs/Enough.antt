-- An invariant that was found elsewhere is enough for a claim that follows from it in one step.
use Rattle.std.proofs.Common.{arith, ℕ, zero, suc, ◌<◌, List, refl}
use Rattle.net_model.specs.Netlist.{IsSound}
use Rattle.net_model.specs.Judge.{Holds}
use Rattle.net_model.specs.Queries.{IsAnswer, claim_query}
use Rattle.net_model.specs.declared.netlist.Design.{Design}
use Rattle.net_model.specs.declared.cycles.Cycle.{Cycle}
use Rattle.net_model.specs.declared.claims.Claim.{Claim}
use Rattle.net_model.specs.declared.invariants.InvClause.{InvClause}
use Rattle.net_model.specs.declared.queries.Phase.TheVariants.{Step}
use Rattle.verdicts.specs.Inductive.{AreAlwaysMet, IsWithin}
use Rattle.verdicts.specs.Offsets.{IsOpenAt, IsOpenBelow}
use Rattle.verdicts.specs.Verdicts.{IsJudged, IsRight}
use Rattle.verdicts.proofs.Inducting.{holds_by_induction}
use Rattle.verdict_types.specs.declared.outcomes.Limits.{Limits}
use Rattle.verdict_types.specs.declared.outcomes.Proof.TheVariants.{Single, Fixed, Depth}
use Rattle.verdict_types.specs.declared.outcomes.Cause.TheVariants.{Depth as Stays, Budget, Free, Cut}
use Rattle.verdict_types.specs.declared.outcomes.Verdict.{Verdict}
use Rattle.verdict_types.specs.declared.outcomes.Verdict.TheVariants.{Justified, Refuted, Undecided}
use Rattle.judgements.specs.Judgements.{IsJustifiedAt, SpendsNone}

-- with more clauses fewer stretches answer
fewer_answers : (d : Design) (claim : Claim) (fewer more : List InvClause) (depth : ℕ) (stretch : List Cycle) → IsWithin fewer more
    → IsAnswer (claim_query d claim Step depth more) stretch → IsAnswer (claim_query d claim Step depth fewer) stretch
fewer_answers d claim fewer more depth stretch within is =
    record {
      cycles = record { linked = is.cycles.linked; resets = is.cycles.resets; count = is.cycles.count };
      kept = λ t c clause low at has. is.kept t c clause low at (within clause has);
      asked = is.asked;
    }

module _ (d : Design) (claim : Claim) (kept : List InvClause) (limits : Limits) (judged : IsJudged d claim) (holds : Holds d claim)
    (closed : IsOpenAt d claim kept 0 → ⊥) where
  -- no depth above 0 is reached
  not_above : (depth : ℕ) → IsOpenBelow d claim kept depth → 0 < depth → ⊥
  not_above depth open_ some = closed (open_.answered 0 some)

  stays_nowhere : (depth : ℕ) → IsOpenBelow d claim kept depth → IsOpenAt d claim kept depth → ⊥
  stays_nowhere zero open_ at = closed at
  stays_nowhere (suc depth) open_ at = not_above (suc depth) open_ (omega arith)

  justified_at : (verdict : Verdict) → IsRight d claim kept limits verdict → SpendsNone verdict → IsJustifiedAt 0 verdict
  justified_at (Justified Single) right none = absurd (judged.captures right)
  justified_at (Justified Fixed) right none = absurd (judged.free right.1)
  justified_at (Justified (Depth zero base step)) right none = refl
  justified_at (Justified (Depth (suc depth) base step)) right none = absurd (not_above (suc depth) right.0.open_ (omega arith))
  justified_at (Refuted offset stimulus) right none = absurd (holds right.1.run _ right.1.from_reset right.1.violated)
  justified_at (Undecided Stays) right none = absurd (stays_nowhere limits.depth right.0.open_ right.2)
  justified_at (Undecided (Budget phase depth log)) right none = absurd none
  justified_at (Undecided (Free offset stimulus)) right none = absurd right
  justified_at (Undecided Cut) right none = absurd right

-- where no stretch that meets some kept clauses answers the claim's step query of depth 0, the claim is justified there
pub justified_by : (d : Design) (claim : Claim) (enough kept : List InvClause) (limits : Limits) (verdict : Verdict) → IsSound d → AreAlwaysMet d kept
    → IsWithin enough kept → IsJudged d claim → ((stretch : List Cycle) → ¬ IsAnswer (claim_query d claim Step 0 enough) stretch)
    → IsRight d claim kept limits verdict → SpendsNone verdict → IsJustifiedAt 0 verdict
justified_by d claim enough kept limits verdict sound met within judged none right spends =
    let no_answer : (stretch : List Cycle) → ¬ IsAnswer (claim_query d claim Step 0 kept) stretch =
    λ stretch is. none stretch (fewer_answers d claim enough kept 0 stretch within is) in
    let holds : Holds d claim = holds_by_induction d claim kept 0 sound met (λ offset low. absurd (omega (arith, low))) no_answer in
    justified_at d claim kept limits judged holds (λ open_. no_answer open_.0 open_.1) verdict right spends
